use Rattle.std.proofs.Common.{◌∙◌, ℕ, List, ap, ap₂, sym}
use Rattle.tp_server.specs.Booted.{with_prepared_kept}
use Rattle.tp_store.specs.Contents.{Contents}
use Rattle.tp_store.specs.Rule as rule
use Rattle.tp_store.specs.declared.writes.Bounds.{Bounds}
use Rattle.tp_server.proofs.Tables.{front_kept}
use Rattle.tp_server.proofs.booted.store_of.Goals as goal

pub returns-in-Ok : goal.returns-in-Ok
returns-in-Ok c =
    let a = c.args in
    let front = c.made.result.now in
    let first = c.over-store.ensures ∙ ap₂ (λ (ranges : List Bounds) (n : ℕ). rule.over ranges n a.values a.newest) c.requires c.len.ensures in
    c.in-Ok.ensures
    ∙ ap (λ (store : Contents). with_prepared_kept store front) first
    ∙ sym (front_kept (rule.restored a.scenario.now a.values a.newest) a.table.now front _ c.made.ensures)
