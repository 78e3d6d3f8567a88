use Rattle.std.proofs.Common.{◌≡◌, ◌+◌, ◌-◌, [], ◌∷◌, ◌++◌, take, Bool, true, false, cond, Some, sym, ap, ◌∙◌, arith}
use Rattle.std.proofs.lemmas.List.{take_more}
use Rattle.std.specs.Str.{bytes_eq}
use Rattle.serde_json.specs.Find.{get_member}
use Rattle.tp_json.specs.View.{members_view, view}
use Rattle.tp_json.proofs.ViewLemmas.{get_member-push}
use Rattle.tp_json.proofs.tree.last_of.Goals as goal

pub returns-then-eq : goal.returns-then-eq
returns-then-eq c =
    let all = c.args.members.now in
    let at = c.loop-left.left - 1 in
    let member = c.index-members-left.result in
    let key = c.args.key.now in
    let next : c.loop-left.left ≡ at + 1 = omega arith in
    let front : take c.loop-left.left all ≡ take at all ++ member ∷ [] =
    ap (λ count. take count all) next ∙ take_more all at member (omega arith)
    ∙ ap (λ m. take at all ++ m ∷ []) (sym c.index-members-left.is) in
    let step = c.loop-left.invariant.0 ∙ ap (λ ms. get_member key (members_view ms)) front
    ∙ get_member-push key (take at all) member in
    let same : bytes_eq member.0.now key ≡ true = grind arith in
    sym (step ∙ ap (λ (b : Bool). cond b (Some (view member.1)) (get_member key (members_view (take at all)))) same)

pub loop-left-preserved : goal.loop-left-preserved
loop-left-preserved c =
    let all = c.args.members.now in
    let at = c.loop-left.left - 1 in
    let member = c.index-members-left.result in
    let key = c.args.key.now in
    let next : c.loop-left.left ≡ at + 1 = omega arith in
    let front : take c.loop-left.left all ≡ take at all ++ member ∷ [] =
    ap (λ count. take count all) next ∙ take_more all at member (omega arith)
    ∙ ap (λ m. take at all ++ m ∷ []) (sym c.index-members-left.is) in
    let step = c.loop-left.invariant.0 ∙ ap (λ ms. get_member key (members_view ms)) front
    ∙ get_member-push key (take at all) member in
    let other : bytes_eq member.0.now key ≡ false = grind arith in (
      step ∙ ap (λ (b : Bool). cond b (Some (view member.1)) (get_member key (members_view (take at all)))) other,
      omega arith,
    )
