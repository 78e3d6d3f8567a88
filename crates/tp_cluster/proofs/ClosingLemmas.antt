-- The world of a closed history.
use Rattle.std.proofs.Common.{◌≡◌, ℕ, ◌+◌, ◌++◌, List, [], ◌∷◌, refl, sym, ap, ◌∙◌, subst, ◌≤◌, ◌<◌, arith}
use Rattle.std.specs.Prelude.{Result, Ok, Err, IfOk, OnOk, false}
use Rattle.atomic_table.specs.Seated.{TableId}
use Rattle.tp_model.specs.Words.{Scenario, Step}
use Rattle.tp_types.specs.Each.{Each}
use Rattle.tp_types.proofs.EachLemmas.{each_append}
use Rattle.tp_machine.specs.Machine.{after}
use Rattle.tp_machine.specs.WorldView.{WorldView, start}
use Rattle.tp_wire.specs.declared.book.Book.{Book}
use Rattle.tp_wire.specs.declared.view.Entry.{Entry}
use Rattle.tp_wire.specs.declared.view.View.{View}
use Rattle.tp_wire.specs.Closing.{IsClosed}
use Rattle.tp_wire.specs.Entries.{steps_in}
use Rattle.tp_wire.specs.History.{Lawful}
use Rattle.tp_wire.specs.Passes.{Known, views_of}
use Rattle.tp_cluster.specs.declared.plan.Plan.{Plan}
use Rattle.tp_cluster.specs.Calls.{IsClosedWorld}
use Rattle.tp_cluster.specs.Runs.{IsNext, actors_of}
use Rattle.tp_cluster.specs.mirrors.Homes.{AreGathered}
use Rattle.tp_cluster.proofs.HomeLemmas.{homes_held, homes_sites, homes_untaken}

-- a book as a cluster's wire closes it
abbrev pub IsClosedBook : Plan → List View → Book → Type 0
IsClosedBook plan views book = IsClosed (IsNext plan.scenario) (actors_of plan.scenario) (actors_of plan.scenario + plan.callers) views book

-- a world begins as that of its own scenario
pub own_start : (sc : Scenario) (world : WorldView) → world ≡ start sc → world ≡ start world.scenario
own_start sc world is = is ∙ ap (λ (w : WorldView). start w.scenario) (sym is)

-- the steps of a closed book are those of a run
pub book_runs : (plan : Plan) (sc : Scenario) (views : List View) (book : Book) → sc ≡ plan.scenario → IsClosedBook plan views book → (log : List Entry) × (book.steps ≡ steps_in log) × Lawful (IsNext sc) log
book_runs plan sc views book same closed = (closed.log, closed.steps, subst (λ (s : Scenario). Lawful (IsNext s) closed.log) (sym same) closed.lawful)

-- all passes of a cluster, of callers and of actors
pub all_sites : (table : TableId) (next : ℕ) (passes all : List Known) → Each (λ (p : Known). p.table ≡ table) passes → AreGathered table 0 next passes all → Each (λ (p : Known). p.table ≡ table) all
all_sites table next passes all sites g =
    subst (Each (λ (p : Known). p.table ≡ table)) (sym g.new_is) (each_append (λ (p : Known). p.table ≡ table) passes g.homes sites (homes_sites table 0 g.homes g.home))

views_more : (passes homes : List Known) → views_of (passes ++ homes) ≡ views_of passes ++ views_of homes
views_more [] homes = refl
views_more (p ∷ passes) homes = ap (λ (vs : List View). p.view ∷ vs) (views_more passes homes)

pub closed_world : {E : Type 0} (plan : Plan) (table : TableId) (passes all : List Known) (book : Book) (sc : Scenario) (r : Result WorldView E) → sc ≡ plan.scenario
    → AreGathered table 0 (actors_of plan.scenario) passes all → IsClosedBook plan (views_of all) book
    → IfOk r (λ w. w.scenario ≡ sc) → IfOk r (λ w. w.given_up ≡ false) → IfOk r (λ w. w.machine ≡ after sc book.steps) → IfOk r (λ w. IsClosedWorld plan (views_of passes) w)
closed_world plan table passes all book sc (Ok world) same g closed scenario live machine = record {
  book = book;
  offices = views_of g.homes;
  scenario = scenario ∙ same;
  live = live;
  machine = machine ∙ ap (λ (s : Scenario). after s book.steps) same;
  closed = subst (λ (vs : List View). IsClosedBook plan vs book) (ap views_of g.new_is ∙ views_more passes g.homes) closed;
  held = λ number less. homes_held table 0 g.homes number g.home (omega arith) (let count = g.count in omega (arith, less, count));
  untaken = homes_untaken table 0 g.homes g.home;
}
closed_world plan table passes all book sc (Err why) same g closed scenario live machine = tt

pub on_ok_any : {T E P : Type 0} (r : Result T E) → P → OnOk r P
on_ok_any (Ok x) p = p
on_ok_any (Err e) p = tt

pub of_plan : (table : TableId) (plan other : Plan) → plan ≡ other → (passes all : List Known) → AreGathered table 0 (actors_of plan.scenario) passes all → AreGathered table 0 (actors_of other.scenario) passes all
of_plan table plan other same passes all g = subst (λ (p : Plan). AreGathered table 0 (actors_of p.scenario) passes all) same g
