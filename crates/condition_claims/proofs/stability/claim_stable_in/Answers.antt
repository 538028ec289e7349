use Rattle.std.specs.Prelude.{List, take}
use Rattle.std.proofs.Common.{sym, subst, ap, ◌∙◌}
use Rattle.std.proofs.lemmas.List.{take_at}
use Rattle.condition_code.specs.declared.walk.Step.{Step}
use Rattle.condition_code.specs.Walks.{Goes}
use Rattle.condition_claims.specs.Pieces.{site_state}
use Rattle.condition_formulas.proofs.Rows.{same_ids}
use Rattle.condition_code.proofs.States.{same_values}
use Rattle.condition_claims.proofs.stability.claim_stable_in.Goals as goal

pub returns : goal.returns
returns c =
    let t = site_state c.args.f.now c.args.site.now in
    let old = c.args.walk.now in
    let ran = c.in_ok-st.ensures in
    let long = sym c.place-from.ensures in
    let going = subst (λ (p : List Step). Goes old.graph c.site_state.new.walk.graph old.path.items p t.path) (sym c.deref.ensures.value) ran.goes in
    let known = c.in_ok-facts.ensures _ _ _ _ long going in
    let locals = same_values c.deref-2.ensures.value ran.gives.locals_are in
    record {
      later = λ n f h. c.in_ok-id.ensures.later n f (ran.goes.later n f h);
      path = c.truncate.ensures.items ∙ ap (λ (p : List Step). take c.place-from.result p) ran.goes.path ∙ take_at old.path.items ran.goes.more c.place-from.result long;
      stands = c.in_ok-id.ensures.stands t locals (same_ids c.deref-3.ensures.value known);
    }
