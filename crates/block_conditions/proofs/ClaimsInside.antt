-- Claims made in a block: the objects and the claim are noted for its end.
use Rattle.std.proofs.Common.{◌≡◌, ℕ, ◌==◌, inl, inr, Bool, true, List, [], ◌∷◌, ◌++◌, Option, Some, None, slice_get, refl, ap, ◌∙◌, subst}
use Rattle.std.proofs.lemmas.List.{length-map}
use Rattle.std.proofs.lemmas.Bool.{eqb-true}
use Rattle.object_types.specs.declared.references.Ref.{Ref}
use Rattle.object_types.specs.References.{is_thread}
use Rattle.object_types.specs.Sets.{is_in}
use Rattle.method.specs.declared.program.DeclaredType.TheVariants.{Claim}
use Rattle.method.specs.declared.program.RightSide.TheVariants.{NewClaim}
use Rattle.method.specs.declared.program.ClaimSite.{ClaimSite}
use Rattle.method.specs.declared.program.FunctionInfo.{FunctionInfo}
use Rattle.method.specs.declared.program.Program.{Program}
use Rattle.method.specs.Typing.{WellTyped, Values, Refs, and_then, only_if, right_values}
use Rattle.method.specs.Expressions.{Context}
use Rattle.method.specs.Actions as M
use Rattle.method.specs.Actions.{Progress, Tally, Took, inner_spot, site_tally, right_tally}
use Rattle.machine_laws.proofs.Typed.{Env, only_if_some}
use Rattle.machine_laws.proofs.Steps.{ListedClosed}
use Rattle.conditions.specs.Symbolic.{Reference}
use Rattle.conditions.specs.Code.{Spot, State, ValueAndState}
use Rattle.conditions.specs.Actions as walk
use Rattle.conditions.proofs.FromRuns.{count_of}
use Rattle.condition_meaning.specs.Languages.{language_of}
use Rattle.condition_meaning.proofs.Environments.{Environment}
use Rattle.condition_walks.proofs.ActionSizes.{claimed_length}
use Rattle.block_conditions.proofs.Beside.{Beside, beside_gives}
use Rattle.block_conditions.proofs.Operands.{At}
use Rattle.block_conditions.proofs.Seeing.{SeesSite}
use Rattle.block_conditions.proofs.NewClaims.{Known, beside_make, claim_there, claimed_heap, counted_state, claim_term, osf, ds, es, objects_noted}
use Rattle.block_conditions.proofs.Statements.{Worth}
use Rattle.conditions.proofs.Joins.{check_gives}

module _ (p : Program) (typed : WellTyped p) (f : FunctionInfo) (k : ℕ) (fis : slice_get p.functions.items k ≡ Some f) (x : Context) (thread : is_thread x.me ≡ true) (os : List Ref) (a0 : Spot) (hid : ℕ → Bool) where
  abbrev a : Spot
  a = record a0 { inside = true }

  abbrev E : Type 0
  E = Environment (language_of p) x.me

  abbrev here_at : ℕ → State → Progress → E → Type 0
  here_at line = At p f (inner_spot p x os line) a hid

  abbrev listing : Ref → Bool
  listing o = is_in o os

  module _ (line n : ℕ) (place : Tally) (number : ℕ) (pl : walk.Place) (mpl : M.Place) (st : State) (g : Progress) (env : Env p f g.heap g.locals) (lists : ListedClosed listing g.heap) (Before : E → Type 0) (here : (e : E) → Before e → here_at line st g e) where
    one_site : (site : ClaimSite) (is : slice_get p.sites.items number ≡ Some site) (at_home : slice_get p.functions.items site.function ≡ Some f) (sees : SeesSite hid (Some site))
        → Beside (language_of p) x.me n (count_of st) (count_of (walk.make_claim p a (Some site) pl st).gives.state) (walk.make_claim p a (Some site) pl st) (M.make_claim p (inner_spot p x os line) (Some site) mpl n place g) Before (λ v e. Worth p typed f k fis x thread os a0 hid place (site_tally (Some site)) st g line (walk.make_claim p a (Some site) pl st).gives v e)
    one_site site is at_home sees =
        let at_ = inner_spot p x os line in
        let objects_terms = osf p typed f at_ thread a hid st g env lists number site is at_home sees Before here in
        let entry_terms = ds p typed f at_ thread a hid st g env lists number site is at_home sees Before here in
        let entry_values = es p typed f at_ thread a hid st g env lists number site is at_home sees Before here in
        let c = claim_term p typed f at_ thread a hid st g env lists number site is at_home sees Before here in
        let st2 = counted_state p typed f at_ thread a hid st g env lists number site is at_home sees Before here in
        let u : ValueAndState = record { value = Reference c; state = record st2 { changed = st2.changed ++ walk.defer objects_terms; made = st2.made ++ record { guards = []; which = c; entries = entry_terms } ∷ [] } } in
        let gives_is : u ≡ (walk.make_claim p a (Some site) pl st).gives = simp check_gives refl in
        subst (λ (w : ValueAndState). Beside (language_of p) x.me n (count_of st) (count_of w.state) (walk.make_claim p a (Some site) pl st) (M.make_claim p at_ (Some site) mpl n place g) Before (λ v e. Worth p typed f k fis x thread os a0 hid place (site_tally (Some site)) st g line w v e)) gives_is
        (beside_make p typed f at_ thread a hid st g env lists number site is at_home sees Before here pl mpl place n (λ v e. Worth p typed f k fis x thread os a0 hid place (site_tally (Some site)) st g line u v e) (λ objects t making.
        let h2 = claimed_heap p typed f at_ thread a hid st g env lists number site is at_home sees Before here objects t.which in
        let there = claim_there p g.heap x.me t.which objects entry_values env.heap making in
        beside_gives (language_of p) x.me _ (count_of st2) u (record { value = _; starting = record g { heap = h2; supply = t.supply; changed = g.changed ++ M.deferred_from place.objects objects; made = g.made ++ M.deferred_from place.claims (t.which ∷ []) } })
        (Known p typed f at_ thread a hid st g env lists number site is at_home sees Before here objects t.which) (λ v e. Worth p typed f k fis x thread os a0 hid place (site_tally (Some site)) st g line u v e) (λ e z.
        let b = here e z.before in
        record {
          value = (t.which, z.claim_is, refl);
          here = record { spot = b.spot; many = b.many; heap = z.heap_is; locals = b.locals };
          adds = record {
            objects = walk.defer objects_terms;
            path_objects = refl;
            many_objects = length-map objects_terms _ ∙ claimed_length p a site.claimed.items st;
            run_objects = M.deferred_from place.objects objects;
            came_objects = refl;
            noted_objects = objects_noted p f at_ a hid e objects_terms objects z.objects_are place.objects place.objects refl;
            claims = record { guards = []; which = c; entries = entry_terms } ∷ [];
            path_claims = refl;
            many_claims = refl;
            run_claims = M.deferred_from place.claims (t.which ∷ []);
            came_claims = refl;
            noted_claims = inr (refl, tt, record { which = z.claim_is; claim = making.claim; conjuncts = entry_values; stand = z.entries; still = inl there }, tt);
          };
        })))

    any_site : (o : Option ClaimSite) → slice_get p.sites.items number ≡ o → (vs : Values) → and_then o (λ s. only_if (s.function == k) (Refs Claim)) ≡ Some vs → SeesSite hid o
        → Beside (language_of p) x.me n (count_of st) (count_of (walk.make_claim p a o pl st).gives.state) (walk.make_claim p a o pl st) (M.make_claim p (inner_spot p x os line) o mpl n place g) Before (λ v e. Worth p typed f k fis x thread os a0 hid place (site_tally o) st g line (walk.make_claim p a o pl st).gives v e)
    any_site None is vs e sees = absurd (cc)
    any_site (Some site) is vs e sees = one_site site is (ap (slice_get p.functions.items) (eqb-true site.function k (only_if_some (site.function == k) (Refs Claim) vs e).0) ∙ fis) sees

    pub beside_new_claim : (vs : Values) → right_values p f k true (NewClaim number) ≡ Some vs → SeesSite hid (slice_get p.sites.items number)
        → Beside (language_of p) x.me n (count_of st) (count_of (walk.make_claim p a (slice_get p.sites.items number) pl st).gives.state) (walk.make_claim p a (slice_get p.sites.items number) pl st) (M.make_claim p (inner_spot p x os line) (slice_get p.sites.items number) mpl n place g) Before (λ v e. Worth p typed f k fis x thread os a0 hid place (right_tally p (NewClaim number)) st g line (walk.make_claim p a (slice_get p.sites.items number) pl st).gives v e)
    beside_new_claim vs e sees = any_site (slice_get p.sites.items number) refl vs e sees
