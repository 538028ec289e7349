-- Expressions of code beside their paths.
use Rattle.std.proofs.Common.{◌≡◌, ℕ, ◌+◌, Bool, true, List, [], ◌∷◌, map, refl, ap, sym, ◌∙◌}
use Rattle.std.proofs.lemmas.Bool.{not-true}
use Rattle.object_types.specs.declared.references.Ref.{Ref}
use Rattle.object_types.specs.declared.values.Value.{Value}
use Rattle.object_types.specs.declared.values.Value.TheVariants.{Ref as Refers}
use Rattle.object_types.specs.Values.{referent}
use Rattle.method.specs.declared.program.Expr.{Expr}
use Rattle.method.specs.declared.program.FunctionInfo.{FunctionInfo}
use Rattle.method.specs.declared.program.Program.{Program}
use Rattle.method.specs.Expressions as m
use Rattle.method.specs.Expressions.{Spot as MachineSpot, Gave, eval, eval_all, checks, all_checks}
use Rattle.method.specs.Typing.{are_ints, are_refs}
use Rattle.method.specs.Actions.{Progress}
use Rattle.machine_laws.proofs.Typed.{Env}
use Rattle.terms.specs.Formula.{Formula}
use Rattle.conditions.specs.Symbolic.{term}
use Rattle.conditions.specs.Paths.{Gives, after}
use Rattle.conditions.specs.Code.{Spot, State, code, all_code, all_symbolic}
use Rattle.conditions.proofs.Tests.{plain, tests, ends_eval}
use Rattle.conditions.proofs.FromRuns.{Count, within_self}
use Rattle.condition_meaning.specs.Languages.{language_of}
use Rattle.condition_meaning.proofs.Environments.{Environment, Has}
use Rattle.condition_walks.proofs.Sizes.{code_size, all_code_size, all_symbolic_size}
use Rattle.action_conditions.proofs.Sorts.{is_number, plain_sort}
use Rattle.action_conditions.proofs.Words.{Refer}
use Rattle.action_conditions.proofs.Places.{Fits, Stated, Stands, AllStand, env_sorts, stands_term, stands_ref}
use Rattle.action_conditions.proofs.Expressions.{code_told}
use Rattle.block_conditions.proofs.Beside.{Beside, beside_after, beside_gives, beside_tests}

-- a reference that fits
pub record FitsRef (p : Program) (f : FunctionInfo) (hid : ℕ → Bool) (y : Expr) : Type 0 where
  pub fits : Fits p f hid y
  pub refs : are_refs fits.values_are ≡ true

-- each expression fits
abbrev pub AllFit : Program → FunctionInfo → (ℕ → Bool) → List Expr → Type 0
AllFit p f hid [] = Unit {0}
AllFit p f hid (y ∷ ys) = Fits p f hid y × AllFit p f hid ys

-- each expression fits and comes to a reference
abbrev pub AllFitRefs : Program → FunctionInfo → (ℕ → Bool) → List Expr → Type 0
AllFitRefs p f hid [] = Unit {0}
AllFitRefs p f hid (y ∷ ys) = FitsRef p f hid y × AllFitRefs p f hid ys

module _ (p : Program) (f : FunctionInfo) (at_ : MachineSpot) (a : Spot) (hid : ℕ → Bool) where
  abbrev E : Type 0
  E = Environment (language_of p) at_.context.me

  abbrev HasIn : E → Formula → Value → Type 0
  HasIn = Has (language_of p) at_.context.me

  abbrev ReferIn : E → List Formula → List Ref → Type 0
  ReferIn = Refer (language_of p) at_.context.me

  -- the state stands for where the run is
  abbrev pub At : State → Progress → E → Type 0
  At st g e = Stated (language_of p) at_.context.me hid a at_ st g.heap g.locals e

  -- terms that have these values, integers where the expressions are
  abbrev pub HaveEach : E → (ys : List Expr) → AllFit p f hid ys → List Formula → List Value → Type 0
  HaveEach e [] fits [] [] = Unit {0}
  HaveEach e [] fits (x ∷ xs) vs = ⊥
  HaveEach e [] fits [] (v ∷ vs) = ⊥
  HaveEach e (y ∷ ys) fits [] vs = ⊥
  HaveEach e (y ∷ ys) fits (x ∷ xs) [] = ⊥
  HaveEach e (y ∷ ys) fits (x ∷ xs) (v ∷ vs) = HasIn e x v × (is_number v ≡ are_ints fits.0.values_are) × HaveEach e ys fits.1 xs vs

  module _ (st : State) (g : Progress) (env : Env p f g.heap g.locals) where
    pub beside_code : (n : ℕ) (c : Count) (y : Expr) → (fits : Fits p f hid y) → (Before : E → Type 0) → ((e : E) → Before e → At st g e) → Beside (language_of p) at_.context.me n c c (code p a st y) (eval p at_ g.heap g.locals y n) Before (λ v e. Stands (language_of p) at_.context.me e (code p a st y).gives v × (is_number v ≡ are_ints fits.values_are))
    beside_code n c y fits Before here =
        beside_tests (language_of p) at_.context.me n c (code p a st y) (eval p at_ g.heap g.locals y n) (tests p at_ g.heap g.locals y) (plain p at_ g.heap g.locals y) Before (λ v e. Stands (language_of p) at_.context.me e (code p a st y).gives v × (is_number v ≡ are_ints fits.values_are)) (ends_eval p at_ g.heap g.locals y n) (λ e b.
        let k = code_told (language_of p) at_.context.me f a at_ refl hid st g.heap g.locals env.heap.heap_of (env_sorts p f g.heap g.locals env) e (here e b) y fits in
        (k.told, (k.value, plain_sort p f at_ g.heap g.locals (env_sorts p f g.heap g.locals env) y fits.values_are fits.typed)))

    pub beside_ref : (n : ℕ) (c : Count) (y : Expr) → FitsRef p f hid y → (Before : E → Type 0) → ((e : E) → Before e → At st g e) → Beside (language_of p) at_.context.me n c c (code p a st y) (eval p at_ g.heap g.locals y n) Before (λ v e. HasIn e (term (code p a st y).gives) (Refers (referent v)))
    beside_ref n c y fits Before here =
        beside_tests (language_of p) at_.context.me n c (code p a st y) (eval p at_ g.heap g.locals y n) (tests p at_ g.heap g.locals y) (plain p at_ g.heap g.locals y) Before (λ v e. HasIn e (term (code p a st y).gives) (Refers (referent v))) (ends_eval p at_ g.heap g.locals y n) (λ e b.
        let k = code_told (language_of p) at_.context.me f a at_ refl hid st g.heap g.locals env.heap.heap_of (env_sorts p f g.heap g.locals env) e (here e b) y fits.fits in
        (k.told, stands_ref (language_of p) at_.context.me e (code p a st y).gives (plain p at_ g.heap g.locals y) k.value (plain_sort p f at_ g.heap g.locals (env_sorts p f g.heap g.locals env) y fits.fits.values_are fits.fits.typed ∙ not-true (are_ints fits.fits.values_are) fits.refs)))

    pub beside_refs : (n : ℕ) (c : Count) (ys : List Expr) → AllFitRefs p f hid ys → (Before : E → Type 0) → ((e : E) → Before e → At st g e) → Beside (language_of p) at_.context.me n c c (all_code p a st ys) (eval_all p at_ g.heap g.locals ys n) Before (λ vs e. ReferIn e (all_code p a st ys).gives (map referent vs))
    beside_refs n c [] fits Before here = beside_gives (language_of p) at_.context.me n c [] [] Before (λ vs e. ReferIn e [] (map referent vs)) (λ e b. tt)
    beside_refs n c (y ∷ ys) fits Before here =
        beside_after (language_of p) at_.context.me n (n + checks y) c c c (code p a st y) (λ v. after (all_code p a st ys) (λ vs. Gives (term v ∷ vs))) (eval p at_ g.heap g.locals y n) (λ v. m.after (eval_all p at_ g.heap g.locals ys (n + checks y)) (λ vs. m.Gives (v ∷ vs)))
        Before (λ v e. HasIn e (term (code p a st y).gives) (Refers (referent v))) (λ vs e. ReferIn e (all_code p a st (y ∷ ys)).gives (map referent vs)) (ap (λ k. n + k) (sym (code_size p a st y))) (within_self c) (beside_ref n c y fits.0 Before here) (λ v is.
        let Mid : E → Type 0 = λ e. Before e × HasIn e (term (code p a st y).gives) (Refers (referent v)) in
        beside_after (language_of p) at_.context.me (n + checks y) (n + checks y + all_checks ys) c c c (all_code p a st ys) (λ vs. Gives (term (code p a st y).gives ∷ vs)) (eval_all p at_ g.heap g.locals ys (n + checks y)) (λ vs. m.Gives (v ∷ vs))
        Mid (λ vs e. ReferIn e (all_code p a st ys).gives (map referent vs)) (λ vs e. ReferIn e (all_code p a st (y ∷ ys)).gives (map referent vs)) (ap (λ k. n + checks y + k) (sym (all_code_size p a st ys))) (within_self c) (beside_refs (n + checks y) c ys fits.1 Mid (λ e b. here e b.0)) (λ vs is'.
        beside_gives (language_of p) at_.context.me (n + checks y + all_checks ys) c (term (code p a st y).gives ∷ (all_code p a st ys).gives) (v ∷ vs) (λ e. Mid e × ReferIn e (all_code p a st ys).gives (map referent vs)) (λ vs e. ReferIn e (all_code p a st (y ∷ ys)).gives (map referent vs)) (λ e b. (b.0.1, b.1))))

    pub beside_values : (n : ℕ) (c : Count) (ys : List Expr) → (fits : AllFit p f hid ys) → (Before : E → Type 0) → ((e : E) → Before e → At st g e) → Beside (language_of p) at_.context.me n c c (all_code p a st ys) (eval_all p at_ g.heap g.locals ys n) Before (λ vs e. HaveEach e ys fits (all_code p a st ys).gives vs)
    beside_values n c [] fits Before here = beside_gives (language_of p) at_.context.me n c [] [] Before (λ vs e. HaveEach e [] fits [] vs) (λ e b. tt)
    beside_values n c (y ∷ ys) fits Before here =
        let Told : Value → E → Type 0 = λ v e. Stands (language_of p) at_.context.me e (code p a st y).gives v × (is_number v ≡ are_ints fits.0.values_are) in
        let Done : List Value → E → Type 0 = λ vs e. HaveEach e (y ∷ ys) fits (all_code p a st (y ∷ ys)).gives vs in
        beside_after (language_of p) at_.context.me n (n + checks y) c c c (code p a st y) (λ v. after (all_code p a st ys) (λ vs. Gives (term v ∷ vs))) (eval p at_ g.heap g.locals y n) (λ v. m.after (eval_all p at_ g.heap g.locals ys (n + checks y)) (λ vs. m.Gives (v ∷ vs)))
        Before Told Done (ap (λ k. n + k) (sym (code_size p a st y))) (within_self c) (beside_code n c y fits.0 Before here) (λ v is.
        let Mid : E → Type 0 = λ e. Before e × Told v e in
        beside_after (language_of p) at_.context.me (n + checks y) (n + checks y + all_checks ys) c c c (all_code p a st ys) (λ vs. Gives (term (code p a st y).gives ∷ vs)) (eval_all p at_ g.heap g.locals ys (n + checks y)) (λ vs. m.Gives (v ∷ vs))
        Mid (λ vs e. HaveEach e ys fits.1 (all_code p a st ys).gives vs) Done (ap (λ k. n + checks y + k) (sym (all_code_size p a st ys))) (within_self c) (beside_values (n + checks y) c ys fits.1 Mid (λ e b. here e b.0)) (λ vs is'.
        beside_gives (language_of p) at_.context.me (n + checks y + all_checks ys) c (term (code p a st y).gives ∷ (all_code p a st ys).gives) (v ∷ vs) (λ e. Mid e × HaveEach e ys fits.1 (all_code p a st ys).gives vs) Done (λ e b. (stands_term (language_of p) at_.context.me e (code p a st y).gives v b.0.1.0, b.0.1.1, b.1))))

    pub beside_symbols : (n : ℕ) (c : Count) (ys : List Expr) → AllFit p f hid ys → (Before : E → Type 0) → ((e : E) → Before e → At st g e) → Beside (language_of p) at_.context.me n c c (all_symbolic p a st ys) (eval_all p at_ g.heap g.locals ys n) Before (λ vs e. AllStand (language_of p) at_.context.me e (all_symbolic p a st ys).gives vs)
    beside_symbols n c [] fits Before here = beside_gives (language_of p) at_.context.me n c [] [] Before (λ vs e. AllStand (language_of p) at_.context.me e [] vs) (λ e b. tt)
    beside_symbols n c (y ∷ ys) fits Before here =
        let Told : Value → E → Type 0 = λ v e. Stands (language_of p) at_.context.me e (code p a st y).gives v × (is_number v ≡ are_ints fits.0.values_are) in
        let Done : List Value → E → Type 0 = λ vs e. AllStand (language_of p) at_.context.me e (all_symbolic p a st (y ∷ ys)).gives vs in
        beside_after (language_of p) at_.context.me n (n + checks y) c c c (code p a st y) (λ v. after (all_symbolic p a st ys) (λ vs. Gives (v ∷ vs))) (eval p at_ g.heap g.locals y n) (λ v. m.after (eval_all p at_ g.heap g.locals ys (n + checks y)) (λ vs. m.Gives (v ∷ vs)))
        Before Told Done (ap (λ k. n + k) (sym (code_size p a st y))) (within_self c) (beside_code n c y fits.0 Before here) (λ v is.
        let Mid : E → Type 0 = λ e. Before e × Told v e in
        beside_after (language_of p) at_.context.me (n + checks y) (n + checks y + all_checks ys) c c c (all_symbolic p a st ys) (λ vs. Gives ((code p a st y).gives ∷ vs)) (eval_all p at_ g.heap g.locals ys (n + checks y)) (λ vs. m.Gives (v ∷ vs))
        Mid (λ vs e. AllStand (language_of p) at_.context.me e (all_symbolic p a st ys).gives vs) Done (ap (λ k. n + checks y + k) (sym (all_symbolic_size p a st ys))) (within_self c) (beside_symbols (n + checks y) c ys fits.1 Mid (λ e b. here e b.0)) (λ vs is'.
        beside_gives (language_of p) at_.context.me (n + checks y + all_checks ys) c ((code p a st y).gives ∷ (all_symbolic p a st ys).gives) (v ∷ vs) (λ e. Mid e × AllStand (language_of p) at_.context.me e (all_symbolic p a st ys).gives vs) Done (λ e b. (b.0.1.0, b.1))))
