use Rattle.std.proofs.Common.{◌≡◌, ◌<◌, ◌≤◌, length, Some, slice_set, arith, ap, sym, ◌∙◌}
use Rattle.tp_round.specs.declared.round.Round.{Round}
use Rattle.tp_round.specs.declared.round.Target.{Target}
use Rattle.tp_round.specs.mirrors.Places.{place_awaited}
use Rattle.tp_round.proofs.ReplyLemmas.{has_no_place, has_place, kept_at_place, place_within, stays_without_place}
use Rattle.tp_round.proofs.round.Round.reply.Goals as goal

pub returns-then-at-len-clause-awaited : goal.returns-then-at-len-clause-awaited
returns-then-at-len-clause-awaited c =
    let at : c.place_awaited-at.result ≡ place_awaited c.args.self.now.targets c.args.server =
    c.place_awaited-at.ensures ∙ ap (λ targets. place_awaited targets c.args.server) c.as_slice.ensures in
    let past : length c.args.self.now.targets ≤ place_awaited c.args.self.now.targets c.args.server = omega arith in
    sym (has_no_place c.args.self.now.targets c.args.server past)

pub returns-then-at-len-clause-kept : goal.returns-then-at-len-clause-kept
returns-then-at-len-clause-kept c =
    let at : c.place_awaited-at.result ≡ place_awaited c.args.self.now.targets c.args.server =
    c.place_awaited-at.ensures ∙ ap (λ targets. place_awaited targets c.args.server) c.as_slice.ensures in
    let past : length c.args.self.now.targets ≤ place_awaited c.args.self.now.targets c.args.server = omega arith in
    let whole : Round = c.args.self.now in
    ap (λ targets. record whole { targets = targets }) (sym (stays_without_place whole.targets c.args.server c.args.verdicts past))

pub returns-clause-awaited : goal.returns-clause-awaited
returns-clause-awaited c =
    let at : c.place_awaited-at.result ≡ place_awaited c.args.self.now.targets c.args.server =
    c.place_awaited-at.ensures ∙ ap (λ targets. place_awaited targets c.args.server) c.as_slice.ensures in
    let within : place_awaited c.args.self.now.targets c.args.server < length c.args.self.now.targets =
    omega (arith, place_within c.args.self.now.targets c.args.server) in
    sym (has_place c.args.self.now.targets c.args.server within)

pub returns-clause-kept : goal.returns-clause-kept
returns-clause-kept c =
    let at : c.place_awaited-at.result ≡ place_awaited c.args.self.now.targets c.args.server =
    c.place_awaited-at.ensures ∙ ap (λ targets. place_awaited targets c.args.server) c.as_slice.ensures in
    let within : place_awaited c.args.self.now.targets c.args.server < length c.args.self.now.targets =
    omega (arith, place_within c.args.self.now.targets c.args.server) in
    let whole : Round = c.args.self.now in
    let kept : Target = record { server = c.args.server; reply = Some c.args.verdicts } in
    ap (λ targets. record whole { targets = targets })
    (c.put.ensures ∙ ap (λ place. slice_set whole.targets place kept) at ∙ sym (kept_at_place whole.targets c.args.server c.args.verdicts within))
