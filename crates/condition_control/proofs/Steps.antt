-- Steps of others, and loops: what the definitions come to where their tests are known.
use Rattle.std.specs.Prelude.{ℕ, zero, suc, Bool, true, false, ◌+◌, ◌<◌, ◌≤◌, List, [], ◌∷◌, ◌++◌, ◌≡◌, length, drop}
use Rattle.std.proofs.Common.{refl, ap, ap₂, sym, ◌∙◌, arith}
use Rattle.std.proofs.Math.ListN.{drop_of_length-le}
use Rattle.terms.specs.declared.term.Term.{Term}
use Rattle.terms.specs.Formula.{Formula}
use Rattle.method.specs.declared.program.DeclaredType.{DeclaredType}
use Rattle.method.specs.declared.program.VariableInfo.{VariableInfo}
use Rattle.method.specs.declared.program.FunctionInfo.{FunctionInfo}
use Rattle.method.specs.Tables.{type_of_variable}
use Rattle.conditions.specs.Actions.{branches_end, join}
use Rattle.conditions.specs.Code as spec
use Rattle.conditions.specs.Admissible.{put_local}
use Rattle.conditions.specs.Paths.{Execution, Gives, after}
use Rattle.conditions.specs.Statements.{interference, havoc, havoc_one}
use Rattle.condition_code.specs.declared.state.State.{State}
use Rattle.condition_code.specs.declared.walk.Step.{Step}
use Rattle.condition_code.specs.States.{IsState}
use Rattle.condition_code.specs.Walks.{GoesTo}
use Rattle.condition_control.specs.Forms.{set_outside}
use Rattle.condition_control.proofs.Runs.{OnWay, way_starts, way_goes_on, way_ends, as_run}

-- Others.

pub unread : (r q : Bool) (s : spec.State) → r ≡ false → Gives s ≡ interference r q s
unread r q s e = ap (λ (x : Bool). interference x q s) (sym e)

pub same_interference : (s : spec.State) {g0 g1 : List Term} {p0 p1 : List Step} {v : State} {r q x y : Bool} → r ≡ x → q ≡ y → GoesTo IsState g0 g1 p0 p1 v (interference r q s) → GoesTo IsState g0 g1 p0 p1 v (interference x y s)
same_interference s e f h = as_run (ap₂ (λ (a b : Bool). interference a b s) e f) h

-- Variables that are set.

pub havoc_unset : (b : Bool) (f : FunctionInfo) (i : ℕ) (s : spec.State) → b ≡ false → Gives s ≡ havoc_one b f i s
havoc_unset b f i s e = ap (λ (x : Bool). havoc_one x f i s) (sym e)

pub havoc_set : (b : Bool) (f : FunctionInfo) (i : ℕ) (s : spec.State) (ty : DeclaredType) → b ≡ true → ty ≡ type_of_variable f i → after (spec.new_value ty s) (λ v. Gives (put_local i v)) ≡ havoc_one b f i s
havoc_set b f i s ty e t = ap (λ (u : DeclaredType). after (spec.new_value u s) (λ v. Gives (put_local i v))) t ∙ ap (λ (x : Bool). havoc_one x f i s) (sym e)

some_there : {X : Type 0} (xs : List X) (i : ℕ) → i < length xs → (x : X) × (drop i xs ≡ x ∷ drop (suc i) xs)
some_there [] i below = absurd (omega arith)
some_there (x ∷ xs) zero below = (x, refl)
some_there (x ∷ xs) (suc i) below = some_there xs i (omega arith)

-- what stands at a place of a list, and what is behind it
pub there : {X : Type 0} (xs : List X) (i : ℕ) → i < length xs → (x : X) × (drop i xs ≡ x ∷ drop (i + 1) xs)
there xs i below =
    let x = some_there xs i below in
    let next : suc i ≡ i + 1 = omega arith in
    (x.0, x.1 ∙ ap (λ j. x.0 ∷ drop j xs) next)

pub record HavocsTo (f : FunctionInfo) (is_set : ℕ → Bool) (first : State) (old new : List Term) (before behind : List Step) (v : State) (i : ℕ) : Type 0 where
  pub ran : (s : spec.State) → IsState old first s → OnWay IsState old new before behind v (havoc f is_set i (drop i f.variables.items)) (havoc f is_set 0 f.variables.items s)

pub havocs_first : {f : FunctionInfo} {is_set : ℕ → Bool} {v : State} {ts : List Term} {path : List Step} → HavocsTo f is_set v ts ts path path v 0
havocs_first {f = f} {is_set = is_set} = record { ran = λ s hs. way_starts (havoc f is_set 0 f.variables.items) hs }

pub havocs_next : {f : FunctionInfo} {is_set : ℕ → Bool} {first v w : State} {g0 g1 g2 : List Term} {p0 p1 p2 : List Step} {i : ℕ} {b : Bool} → HavocsTo f is_set first g0 g1 p0 p1 v i → i < length f.variables.items → b ≡ is_set i → ((s : spec.State) → IsState g1 v s → GoesTo IsState g1 g2 p1 p2 w (havoc_one b f i s)) → HavocsTo f is_set first g0 g2 p0 p2 w (i + 1)
havocs_next {f = f} {is_set = is_set} {i = i} {b = b} to below e one =
    let vs : List VariableInfo = f.variables.items in
    let here = there vs i below in
    let next : spec.State → Execution spec.State = havoc f is_set (i + 1) (drop (i + 1) vs) in
    record {
      ran = λ s hs. way_goes_on (havoc f is_set i (drop i vs)) (havoc_one b f i) next (λ t. ap (λ (ws : List VariableInfo). havoc f is_set i ws t) here.1 ∙ ap (λ (x : Bool). after (havoc_one x f i t) next) (sym e)) (to.ran s hs) one;
    }

pub havocs_last : {f : FunctionInfo} {is_set : ℕ → Bool} {first v : State} {g0 g1 : List Term} {p0 p1 : List Step} {i : ℕ} → HavocsTo f is_set first g0 g1 p0 p1 v i → length f.variables.items ≤ i → (s : spec.State) → IsState g0 first s → GoesTo IsState g0 g1 p0 p1 v (havoc f is_set 0 f.variables.items s)
havocs_last {f = f} {is_set = is_set} {i = i} to above s hs =
    let vs : List VariableInfo = f.variables.items in
    way_ends (havoc f is_set i (drop i vs)) (λ t. ap (λ (ws : List VariableInfo). havoc f is_set i ws t) (drop_of_length-le vs above)) (to.ran s hs)

pub same_havoc : (f : FunctionInfo) (s : spec.State) {v : State} {g0 g1 : List Term} {p0 p1 : List Step} {is ds js es : List ℕ} → is ≡ js → ds ≡ es → GoesTo IsState g0 g1 p0 p1 v (havoc f (set_outside is ds) 0 f.variables.items s) → GoesTo IsState g0 g1 p0 p1 v (havoc f (set_outside js es) 0 f.variables.items s)
same_havoc f s e g h = as_run (ap₂ (λ (xs ys : List ℕ). havoc f (set_outside xs ys) 0 f.variables.items s) e g) h

-- a list begun empty, and one part more, and another
pub begun : {X : Type 0} {none next shown part : List X} → none ≡ [] → next ≡ none ++ part → shown ≡ next → shown ≡ part
begun {part = part} e f g = g ∙ f ∙ ap (λ xs. xs ++ part) e

pub begun_twice : {X : Type 0} {none one two shown : List X} (first second : List X) → none ≡ [] → one ≡ none ++ first → two ≡ one ++ second → shown ≡ two → shown ≡ first ++ second
begun_twice first second e f g h = h ∙ g ∙ ap (λ xs. xs ++ second) (f ∙ ap (λ xs. xs ++ first) e)

-- Ways.

pub same_join : (s : spec.State) (b : Formula) (x y : Execution spec.State) {v : State} {g0 g1 : List Term} {p0 p1 : List Step} {q q' r r' : Bool} {ds es : List ℕ} → q ≡ r → q' ≡ r' → ds ≡ es → GoesTo IsState g0 g1 p0 p1 v (branches_end s b q q' x y (join ds s x.gives y.gives)) → GoesTo IsState g0 g1 p0 p1 v (branches_end s b r r' x y (join es s x.gives y.gives))
same_join s b x y {q = q} {q' = q'} {es = es} e f d h =
    as_run (ap (λ (ds : List ℕ). branches_end s b q q' x y (join ds s x.gives y.gives)) d ∙ ap₂ (λ (a c : Bool). branches_end s b a c x y (join es s x.gives y.gives)) e f) h
