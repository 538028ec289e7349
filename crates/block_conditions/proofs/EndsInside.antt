-- Claims ended in a block: the objects are noted for its end.
use Rattle.std.proofs.Common.{◌≡◌, ℕ, ◌+◌, Bool, true, not, List, [], ◌∷◌, ◌++◌, map, length, Some, slice_get, refl, ap, sym, ◌∙◌, subst}
use Rattle.std.proofs.lemmas.List.{length-map}
use Rattle.object_types.specs.declared.references.Ref.{Ref}
use Rattle.object_types.specs.declared.values.Value.TheVariants.{Ref as Refers}
use Rattle.object_types.specs.References.{is_thread}
use Rattle.object_types.specs.Values.{referent}
use Rattle.object_types.specs.Sets.{is_in}
use Rattle.method.specs.declared.program.DeclaredType.TheVariants.{Claim}
use Rattle.method.specs.declared.program.Expr.{Expr}
use Rattle.method.specs.declared.program.Simple.TheVariants.{EndClaim}
use Rattle.method.specs.declared.program.FunctionInfo.{FunctionInfo}
use Rattle.method.specs.declared.program.Program.{Program}
use Rattle.method.specs.Typing.{WellTyped, values, fits, all_refs, is_claim_expr, simple_ok}
use Rattle.method.specs.Expressions as m
use Rattle.method.specs.Expressions.{Context, eval, eval_all, checks, all_checks}
use Rattle.method.specs.Actions as M
use Rattle.method.specs.Actions.{Progress, Tally, inner_spot, simple_tally}
use Rattle.method.proofs.Global.{and_both}
use Rattle.machine_laws.proofs.Typed.{Env}
use Rattle.machine_laws.proofs.Steps.{ListedClosed}
use Rattle.machine_laws.proofs.Simple.{test_some}
use Rattle.conditions.specs.Symbolic.{term}
use Rattle.conditions.specs.Paths.{after}
use Rattle.conditions.specs.Code.{Spot, State, code, all_code}
use Rattle.conditions.specs.Quantified.{listed_quantified}
use Rattle.conditions.specs.Actions as walk
use Rattle.conditions.proofs.FromRuns.{count_of, within_self}
use Rattle.condition_meaning.specs.Languages.{language_of}
use Rattle.condition_meaning.proofs.Environments.{Environment, Has, HeapIs}
use Rattle.condition_walks.proofs.Sizes.{code_size, all_code_size, all_code_length}
use Rattle.condition_walks.proofs.ActionSorts.{fits_sort}
use Rattle.action_conditions.proofs.Words.{Refer}
use Rattle.block_conditions.proofs.Beside.{Beside, beside_after, beside_gives}
use Rattle.block_conditions.proofs.Operands.{At, FitsRef, beside_ref, beside_refs}
use Rattle.block_conditions.proofs.Noting.{Adds}
use Rattle.block_conditions.proofs.Seeing.{SeesSimple}
use Rattle.block_conditions.proofs.NewClaims.{objects_noted}
use Rattle.block_conditions.proofs.EndClaims.{ExactlyIs, beside_ended, ended_term, ended_heap}
use Rattle.block_conditions.proofs.Statements.{all_refs_fit}
use Rattle.conditions.proofs.Joins.{check_gives}

module _ (p : Program) (typed : WellTyped p) (f : FunctionInfo) (k : ℕ) (fis : slice_get p.functions.items k ≡ Some f) (x : Context) (thread : is_thread x.me ≡ true) (os : List Ref) (a0 : Spot) (hid : ℕ → Bool) (is_exactly : ExactlyIs p x.me) where
  abbrev a : Spot
  a = record a0 { inside = true }

  abbrev E : Type 0
  E = Environment (language_of p) x.me

  abbrev here_at : ℕ → State → Progress → E → Type 0
  here_at line = At p f (inner_spot p x os line) a hid

  abbrev listing : Ref → Bool
  listing o = is_in o os

  pub beside_end_claim : (line n : ℕ) (place : Tally) (q : ℕ) (y : Expr) (ys : _) (st : State) (g : Progress) → Env p f g.heap g.locals → ListedClosed listing g.heap → simple_ok p f k true (EndClaim q y ys) ≡ true → SeesSimple p hid (EndClaim q y ys) → (Before : E → Type 0) → ((e : E) → Before e → here_at line st g e)
      → Beside (language_of p) x.me n (count_of st) (count_of (walk.run_simple p a (EndClaim q y ys) st).gives) (walk.run_simple p a (EndClaim q y ys) st) (M.run_simple p (inner_spot p x os line) (EndClaim q y ys) n place g) Before (λ g' e. here_at line (walk.run_simple p a (EndClaim q y ys) st).gives g' e × Adds (language_of p) x.me place (simple_tally p (EndClaim q y ys)) st (walk.run_simple p a (EndClaim q y ys) st).gives g g' e)
  beside_end_claim line n place q y ys st g env lists ok sees Before here =
      let L = language_of p in
      let t = x.me in
      let at_ = inner_spot p x os line in
      let b = and_both (is_claim_expr p f y) (all_refs p f ys.items) ok in
      let w = test_some p f (values p f y) (λ v. fits v Claim) b.0 in
      let fit : FitsRef p f hid y = record { fits = record { values_are = w.0; typed = w.1; seen = sees.0 }; refs = ap not (fits_sort w.0 Claim w.2) } in
      let c = term (code p a st y).gives in
      let qs = (all_code p a st ys.items).gives in
      let n1 = n + checks y in
      let n2 = n1 + all_checks ys.items in
      let c0 = count_of st in
      let h1 = ended_term p typed f at_ thread a hid is_exactly st g env lists c qs in
      let u : State = record st { heap = h1; changed = st.changed ++ walk.defer qs } in
      let gives_is : u ≡ (walk.run_simple p a (EndClaim q y ys) st).gives = simp check_gives refl in
      let many : length qs ≡ length ys.items = all_code_length p a st ys.items in
      let Last : State → Progress → E → Type 0 = λ s g' e. here_at line s g' e × Adds L t place (simple_tally p (EndClaim q y ys)) st s g g' e in
      subst (λ (s : State). Beside L t n c0 (count_of s) (walk.run_simple p a (EndClaim q y ys) st) (M.run_simple p at_ (EndClaim q y ys) n place g) Before (Last s)) gives_is
      (beside_after L t n n1 c0 c0 c0 (code p a st y) (λ c. after (all_code p a st ys.items) (λ os. walk.end_claim p a q (term c) os st (ended_term p typed f at_ thread a hid is_exactly st g env lists (term c) os))) (eval p at_ g.heap g.locals y n) (λ c. m.after (eval_all p at_ g.heap g.locals ys.items n1) (λ vs. M.end_claim p at_ (referent c) (map referent vs) n2 place g))
      Before (λ v e. Has L t e c (Refers (referent v))) (Last u) (ap (λ j. n + j) (sym (code_size p a st y))) (within_self c0) (beside_ref p f at_ a hid st g env n c0 y fit Before here) (λ v came.
      let B1 : E → Type 0 = λ e. Before e × Has L t e c (Refers (referent v)) in
      beside_after L t n1 n2 c0 c0 c0 (all_code p a st ys.items) (λ os. walk.end_claim p a q c os st (ended_term p typed f at_ thread a hid is_exactly st g env lists c os)) (eval_all p at_ g.heap g.locals ys.items n1) (λ vs. M.end_claim p at_ (referent v) (map referent vs) n2 place g)
      B1 (λ vs e. Refer L t e qs (map referent vs)) (Last u) (ap (λ j. n1 + j) (sym (all_code_size p a st ys.items))) (within_self c0) (beside_refs p f at_ a hid st g env n1 c0 ys.items (all_refs_fit p f hid ys.items b.1 sees.1) B1 (λ e z. here e z.0)) (λ vs came'.
      let rs = map referent vs in
      let B2 : E → Type 0 = λ e. B1 e × Refer L t e qs rs in
      let k1 = ended_heap p typed f at_ thread a hid is_exactly st g env lists (referent v) rs in
      beside_ended p typed f at_ thread a hid is_exactly st g env lists n2 place q c (referent v) qs rs (sees.2 ∙ ap (λ i. Some (listed_quantified q i)) (sym many)) B2 (λ e z. (here e z.0.0, z.0.1, z.1)) (Last u) (λ ending.
      beside_gives L t (n2 + 1 + length rs) c0 u (record g { heap = k1; changed = g.changed ++ M.deferred_from place.objects rs }) (λ e. B2 e × HeapIs L t e h1 k1) (Last u) (λ e z.
      let s = here e z.0.0.0 in (
        record { spot = s.spot; many = s.many; heap = z.1; locals = s.locals },
        record {
          objects = walk.defer qs;
          path_objects = refl;
          many_objects = length-map qs _ ∙ many;
          run_objects = M.deferred_from place.objects rs;
          came_objects = refl;
          noted_objects = objects_noted p f at_ a hid e qs rs z.0.1 place.objects place.objects refl;
          claims = [];
          path_claims = no_more st.made;
          many_claims = refl;
          run_claims = [];
          came_claims = no_more g.made;
          noted_claims = tt;
        },
      ))))))
    where
      no_more : {X : Type 0} (xs : List X) → xs ≡ xs ++ []
      no_more [] = refl
      no_more (x ∷ xs) = ap (λ ys. x ∷ ys) (no_more xs)
