use Rattle.std.specs.Prelude.{ℕ, List}
use Rattle.std.proofs.Common.{subst}
use Rattle.method.specs.declared.program.Claimed.{Claimed}
use Rattle.conditions.specs.Admissible.{any_locals, all_listed, no_constants}
use Rattle.conditions.specs.Paths.{after}
use Rattle.condition_code.specs.States.{IsState}
use Rattle.condition_code.specs.Walks.{Ran}
use Rattle.condition_code.proofs.Walks.{run_then, run_built}
use Rattle.condition_claims.proofs.sites.site_state.Goals as goal

pub returns : goal.returns
returns c =
    let f = c.args.f.now in
    let named = c.in_ok-named.ensures _ c.in_ok-st.ensures.stands in
    let listing = c.in_ok-listing.ensures _ named.gives in
    let P : List ℕ → List Claimed → Type 0 = λ is cs. Ran IsState c.args.walk.now c.list_all.new.walk c.in_ok-listing.listing (after (any_locals f is (no_constants f)) (λ st. all_listed cs st)) in
    subst (λ (cs : List Claimed). P c.args.site.now.variables.items cs) c.deref-2.ensures.value (subst (λ (is : List ℕ). P is c.deref-2.result.now) c.deref.ensures.value (run_built c.in_ok-st.ensures.later (run_then named listing)))
