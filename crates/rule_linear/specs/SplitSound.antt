-- The row of `split` gives consequences.
use Rattle.std.proofs.Common.{◌≡◌, ℕ, List, [], ◌∷◌, map, Some, None, Option, slice_get, Bool, true, false, not, ◌||◌, refl, ap, sym, ◌∙◌, subst, ℤ, ◌≤ℤ◌}
use Rattle.std.specs.Option.{option_and_then}
use Rattle.int_ranges.specs.Signs.{antisym}
use Rattle.terms.specs.declared.term.Term.{Term}
use Rattle.terms.specs.declared.term.Literal.{Literal}
use Rattle.terms.specs.declared.term.Kind.{Kind}
use Rattle.terms.specs.declared.term.Kind.TheVariants.{Le}
use Rattle.terms.specs.declared.sort.Sort.{Sort}
use Rattle.terms.specs.declared.sort.Sort.TheVariants as s
use Rattle.term_meaning.specs.Meaning.{Language, Env, IsEnv, Value, int_value, truth, number, Decides, Means, IsValuation}
use Rattle.term_meaning.specs.ValueSorts.{HasSort}
use Rattle.term_meaning.proofs.Sorted.{gives_sorted}
use Rattle.term_meaning.proofs.Valuations.{trees}
use Rattle.vcc_rules.specs.EqualitySound.{says}
use Rattle.vcc_rules.specs.Law.{IsConsequence, AreSortsOf}
use Rattle.rule_linear.specs.Bounds.{is_int_sort, is_int}
use Rattle.rule_linear.specs.Rows.{compared_of, compared, IsSplit}

int_sort : (o : Option (Option Sort)) → is_int_sort o ≡ true → o ≡ Some (Some s.Int)
int_sort None h = cc
int_sort (Some None) h = cc
int_sort (Some (Some s.Int)) h = refl
int_sort (Some (Some s.Ref)) h = cc
int_sort (Some (Some s.Heap)) h = cc
int_sort (Some (Some s.Bool)) h = cc

split_true : (x y z : Bool) → (y ≡ true → z ≡ true → x ≡ true) → x || (not y || (not z || false)) ≡ true
split_true true y z f = refl
split_true false true true f = f refl refl
split_true false true false f = refl
split_true false false z f = refl

compared_means : (language : Language) (e : Env) (k : Kind) (i : ℤ) (xs : List ℕ) (v : ℕ → Value) (x : Value) (a b : ℕ) → compared_of k xs ≡ Some (a, b) → Means language e k i (map v xs) x → Decides x (number (v a) ≤ℤ number (v b))
compared_means language e Le i (c ∷ d ∷ []) v x a b h m =
    let w : (c, d) ≡ (a, b) = cc in
    let p : c ≡ a = ap (λ (p : ℕ × ℕ). p.0) w in
    let q : d ≡ b = ap (λ (p : ℕ × ℕ). p.1) w in
    subst (λ (a : ℕ). Decides x (number (v a) ≤ℤ number (v b))) p (subst (λ (b : ℕ). Decides x (number (v c) ≤ℤ number (v b))) q m)
compared_means language e Le i [] v x a b h m = cc
compared_means language e Le i (c ∷ []) v x a b h m = cc
compared_means language e Le i (c ∷ d ∷ f ∷ xs) v x a b h m = cc
compared_means language e _ i xs v x a b h m = cc

compared_at : (language : Language) (e : Env) (v : ℕ → Value) (terms : List Term) (t a b : ℕ) → IsValuation language e terms v → (o : Option Term) → slice_get terms t ≡ o → option_and_then (λ (n : Term). compared_of n.kind n.args) o ≡ Some (a, b) → Decides (v t) (number (v a) ≤ℤ number (v b))
compared_at language e v terms t a b valued None g h = cc
compared_at language e v terms t a b valued (Some n) g h = compared_means language e n.kind n.index n.args v (v t) a b h (valued.term t n g)

-- a comparison is true exactly where the numbers are in this order
pub compares : (language : Language) (e : Env) (v : ℕ → Value) (terms : List Term) (t a b : ℕ) → IsValuation language e terms v → compared terms t ≡ Some (a, b) → Decides (v t) (number (v a) ≤ℤ number (v b))
compares language e v terms t a b valued h = compared_at language e v terms t a b valued (slice_get terms t) refl h

-- an Int has an integer as its value
int_is : (language : Language) (sorts : List (Option Sort)) (terms : List Term) (e : Env) (v : ℕ → Value) (t : ℕ) → AreSortsOf language terms sorts → IsEnv language.program e → IsValuation language e terms v → is_int sorts t ≡ true → v t ≡ int_value (number (v t))
int_is language sorts terms e v t suits env valued h =
    let f = suits.each t s.Int (int_sort (slice_get sorts t) h) in
    let g : HasSort language.program s.Int (v t) = gives_sorted language e env f.0 s.Int (v t) f.2 (trees language e terms v t f.0 valued f.1) in
    g.1 ∙ ap int_value (sym (ap number g.1))

pub split_sound : (language : Language) (sorts : List (Option Sort)) (terms : List Term) (root : Option ℕ) (clauses : List (List Literal)) (below : ℕ) (numbers : List ℤ) (clause : List Literal) → AreSortsOf language terms sorts → IsSplit sorts terms numbers clause → IsConsequence language terms root clauses below clause
split_sound language sorts terms root clauses below numbers clause suits (t, u, w, a, b, n, p, q, r, x, y, c) e v env valued hold =
    let d = says language e v terms t a b valued p in
    let f = compares language e v terms u a b valued q in
    let g = compares language e v terms w b a valued r in
    let i = int_is language sorts terms e v a suits env valued x in
    let j = int_is language sorts terms e v b suits env valued y in
    rw c (split_true (truth (v t)) (truth (v u)) (truth (v w))
    (λ h k. d.holds (i ∙ ap int_value (antisym (number (v a)) (number (v b)) (f.yes h) (g.yes k)) ∙ sym j)))
