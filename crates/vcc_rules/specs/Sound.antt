-- The rows of `root`, `conn` and `chain` give consequences.
use Rattle.std.proofs.Common.{◌≡◌, ℕ, zero, suc, ◌<◌, ◌-◌, ℤ, ◌⊎◌, inl, inr, List, [], ◌∷◌, map, Some, Option, None, slice_get, Bool, true, false, not, ◌&&◌, ◌||◌, cond, refl, ap, sym, ◌∙◌, subst}
use Rattle.std.proofs.Common.{nat_eq}
use Rattle.std.proofs.lemmas.Bool.{eqb-true}
use Rattle.terms.specs.declared.term.Term.{Term}
use Rattle.terms.specs.declared.term.Literal.{Literal}
use Rattle.terms.specs.declared.term.Kind.{Kind}
use Rattle.terms.specs.declared.term.Kind.TheVariants.{True, Not, And, Or, Imp, Ite}
use Rattle.std.specs.Option.{option_and_then}
use Rattle.std.specs.Prelude.{if◌then◌else◌}
use Rattle.term_meaning.specs.Meaning.{Language, Env, Value, truth, Means, IsValuation, clause_true, literal_true}
use Rattle.vcc_rules.specs.Law.{IsConsequence}
use Rattle.vcc_rules.specs.EqualitySound.{says}
use Rattle.vcc_rules.specs.Rows.{IsRoot, connective_clauses, IsClausal, choice_of, IsChosen, IsConnective, same_literal, same_sign, is_known, negated, open_of, Closes}

pub root_sound : (language : Language) (terms : List Term) (root : Option ℕ) (clauses : List (List Literal)) (below : ℕ) (numbers : List ℤ) (clause : List Literal) → IsRoot root numbers clause → IsConsequence language terms root clauses below clause
root_sound language terms root clauses below numbers clause h e v env valued hold =
    let f : truth (v h.0) ≡ false = hold.root_false h.0 h.1 in
    rw (h.3, f) refl

abbrev AllTrue : (ℕ → Value) → List (List Literal) → Type 0
AllTrue v [] = Unit {0}
AllTrue v (c ∷ cs) = (clause_true v c ≡ true) × AllTrue v cs

pick : (v : ℕ → Value) (cs : List (List Literal)) (k : ℕ) (c : List Literal) → AllTrue v cs → slice_get cs k ≡ Some c → clause_true v c ≡ true
pick v [] k c a g = cc
pick v (d ∷ cs) zero c a g = let s : d ≡ c = cc in subst (λ (c : List Literal). clause_true v c ≡ true) s a.0
pick v (d ∷ cs) (suc k) c a g = pick v cs k c a.1 g

not_rows : (a : Bool) → (not a || (a || false) ≡ true) × ((not (not a) || (not a || false) ≡ true) × Unit {0})
not_rows true = (refl, (refl, tt))
not_rows false = (refl, (refl, tt))

and_rows : (a b : Bool) → (not (a && b) || (a || false) ≡ true) × ((not (a && b) || (b || false) ≡ true) × ((a && b || (not a || (not b || false)) ≡ true) × Unit {0}))
and_rows true true = (refl, (refl, (refl, tt)))
and_rows true false = (refl, (refl, (refl, tt)))
and_rows false true = (refl, (refl, (refl, tt)))
and_rows false false = (refl, (refl, (refl, tt)))

or_rows : (a b : Bool) → ((a || b) || (not a || false) ≡ true) × (((a || b) || (not b || false) ≡ true) × ((not (a || b) || (a || (b || false)) ≡ true) × Unit {0}))
or_rows true true = (refl, (refl, (refl, tt)))
or_rows true false = (refl, (refl, (refl, tt)))
or_rows false true = (refl, (refl, (refl, tt)))
or_rows false false = (refl, (refl, (refl, tt)))

imp_rows : (a b : Bool) → ((not a || b) || (a || false) ≡ true) × (((not a || b) || (not b || false) ≡ true) × ((not (not a || b) || (not a || (b || false)) ≡ true) × Unit {0}))
imp_rows true true = (refl, (refl, (refl, tt)))
imp_rows true false = (refl, (refl, (refl, tt)))
imp_rows false true = (refl, (refl, (refl, tt)))
imp_rows false false = (refl, (refl, (refl, tt)))

-- each clause of a node is true at each valuation
connectives_true : (language : Language) (e : Env) (v : ℕ → Value) (k : Kind) (n : ℤ) (t : ℕ) (args : List ℕ) → Means language e k n (map v args) (v t) → AllTrue v (connective_clauses k t args)
connectives_true language e v True n t [] m = (rw (ap truth m) refl, tt)
connectives_true language e v Not n t (a ∷ []) m = rw (ap truth m) (not_rows (truth (v a)))
connectives_true language e v And n t (a ∷ b ∷ []) m = rw (ap truth m) (and_rows (truth (v a)) (truth (v b)))
connectives_true language e v Or n t (a ∷ b ∷ []) m = rw (ap truth m) (or_rows (truth (v a)) (truth (v b)))
connectives_true language e v Imp n t (a ∷ b ∷ []) m = rw (ap truth m) (imp_rows (truth (v a)) (truth (v b)))
connectives_true language e v _ n t _ m = tt

clausal_sound : (language : Language) (terms : List Term) (root : Option ℕ) (clauses : List (List Literal)) (below : ℕ) (numbers : List ℤ) (clause : List Literal) → IsClausal terms numbers clause → IsConsequence language terms root clauses below clause
clausal_sound language terms root clauses below numbers clause (part, t, node, m, g, p) e v env valued hold =
    pick v (connective_clauses node.kind t node.args) (part - 1) clause (connectives_true language e v node.kind node.index t node.args (valued.term t node g)) p.1

-- a choice is one of its branches, by its test
record Chooses (v : ℕ → Value) (t b x y : ℕ) : Type 0 where
  is : v t ≡ if truth (v b) then v x else v y

choice_means : (language : Language) (e : Env) (k : Kind) (i : ℤ) (args : List ℕ) (v : ℕ → Value) (t b x y : ℕ) → choice_of k args ≡ Some (b, x, y) → Means language e k i (map v args) (v t) → Chooses v t b x y
choice_means language e Ite i (c ∷ d ∷ f ∷ []) v t b x y h m =
    let w : (c, d, f) ≡ (b, x, y) = cc in
    let p : c ≡ b = ap (λ (p : ℕ × ℕ × ℕ). p.0) w in
    let q : d ≡ x = ap (λ (p : ℕ × ℕ × ℕ). p.1) w in
    let r : f ≡ y = ap (λ (p : ℕ × ℕ × ℕ). p.2) w in
    record { is = m ∙ (λ j. if truth (v (p j)) then v (q j) else v (r j)) }
choice_means language e Ite i [] v t b x y h m = cc
choice_means language e Ite i (c ∷ []) v t b x y h m = cc
choice_means language e Ite i (c ∷ d ∷ []) v t b x y h m = cc
choice_means language e Ite i (c ∷ d ∷ f ∷ g ∷ args) v t b x y h m = cc
choice_means language e _ i args v t b x y h m = cc

chooses_at : (language : Language) (e : Env) (v : ℕ → Value) (terms : List Term) (t b x y : ℕ) → IsValuation language e terms v → (o : Option Term) → slice_get terms t ≡ o → option_and_then (λ (n : Term). choice_of n.kind n.args) o ≡ Some (b, x, y) → Chooses v t b x y
chooses_at language e v terms t b x y valued None g h = cc
chooses_at language e v terms t b x y valued (Some n) g h = choice_means language e n.kind n.index n.args v t b x y h (valued.term t n g)

first_chosen : (c u : Bool) (t x y : Value) → t ≡ (if c then x else y) → (t ≡ x → u ≡ true) → not c || (u || false) ≡ true
first_chosen true u t x y h f = rw (f h) refl
first_chosen false u t x y h f = refl

second_chosen : (c u : Bool) (t x y : Value) → t ≡ (if c then x else y) → (t ≡ y → u ≡ true) → c || (u || false) ≡ true
second_chosen true u t x y h f = refl
second_chosen false u t x y h f = rw (f h) refl

chosen_sound : (language : Language) (terms : List Term) (root : Option ℕ) (clauses : List (List Literal)) (below : ℕ) (numbers : List ℤ) (clause : List Literal) → IsChosen terms numbers clause → IsConsequence language terms root clauses below clause
chosen_sound language terms root clauses below numbers clause (part, t, u, b, x, y, m, p, row) e v env valued hold =
    let c = chooses_at language e v terms t b x y valued (slice_get terms t) refl p in
    elim row [
      | inl (one, s, f) ↦ rw f (first_chosen (truth (v b)) (truth (v u)) (v t) (v x) (v y) c.is (says language e v terms u t x valued s).holds)
      | inr (two, s, f) ↦ rw f (second_chosen (truth (v b)) (truth (v u)) (v t) (v x) (v y) c.is (says language e v terms u t y valued s).holds)
    ]

pub connective_sound : (language : Language) (terms : List Term) (root : Option ℕ) (clauses : List (List Literal)) (below : ℕ) (numbers : List ℤ) (clause : List Literal) → IsConnective terms numbers clause → IsConsequence language terms root clauses below clause
connective_sound language terms root clauses below numbers clause row =
    elim row [
      | inl r ↦ clausal_sound language terms root clauses below numbers clause r
      | inr r ↦ chosen_sound language terms root clauses below numbers clause r
    ]

one_of_two : (p x k : Bool) → cond p x (not x) || false ≡ true → cond (not p) x (not x) || k ≡ true → k ≡ true
one_of_two true true k a b = b
one_of_two true false k a b = cc
one_of_two false true k a b = cc
one_of_two false false k a b = b

or_cases : (a b : Bool) → a || b ≡ true → (a ≡ true) ⊎ (b ≡ true)
or_cases true b h = inl refl
or_cases false b h = inr h

or_left : (a b : Bool) → a ≡ true → a || b ≡ true
or_left true b h = refl
or_left false b h = cc

or_right : (a b : Bool) → b ≡ true → a || b ≡ true
or_right true b h = refl
or_right false b h = h

and_both : (a b : Bool) → a && b ≡ true → (a ≡ true) × (b ≡ true)
and_both true b h = (refl, h)
and_both false b h = cc

same_sign_is : (a b : Bool) → same_sign a b ≡ true → a ≡ b
same_sign_is true b h = sym h
same_sign_is false true h = cc
same_sign_is false false h = refl

-- the same literals have the same truth
same_true : (v : ℕ → Value) (l m : Literal) → same_literal l m ≡ true → literal_true v l ≡ literal_true v m
same_true v l m h =
    let b = and_both (nat_eq l.term m.term) (same_sign l.positive m.positive) h in
    let e : l.term ≡ m.term = eqb-true _ _ b.0 in
    let f : l.positive ≡ m.positive = same_sign_is l.positive m.positive b.1 in
    cc

-- a known literal that is true makes the known clause true
known_true : (v : ℕ → Value) (known : List Literal) (m : Literal) → is_known known m ≡ true → literal_true v m ≡ true → clause_true v known ≡ true
known_true v [] m k t = cc
known_true v (l ∷ ls) m k t =
    elim (or_cases (same_literal m l) (is_known ls m) k) [
      | inl e ↦ or_left (literal_true v l) (clause_true v ls) (sym (same_true v m l e) ∙ t)
      | inr e ↦ or_right (literal_true v l) (clause_true v ls) (known_true v ls m e t)
    ]

at_open : (v : ℕ → Value) (known : List Literal) (m : Literal) (ms rest : List Literal) (b : Bool) → is_known known m ≡ b → (literal_true v m ≡ true) ⊎ (clause_true v ms ≡ true) → (clause_true v ms ≡ true → (clause_true v rest ≡ true) ⊎ (clause_true v known ≡ true)) → (clause_true v (cond (not b) (m ∷ rest) rest) ≡ true) ⊎ (clause_true v known ≡ true)
at_open v known m ms rest true k (inl t) f = inr (known_true v known m k t)
at_open v known m ms rest false k (inl t) f = inl (or_left (literal_true v m) (clause_true v rest) t)
at_open v known m ms rest true k (inr t) f = f t
at_open v known m ms rest false k (inr t) f =
    elim (f t) as (λ _. (literal_true v m || clause_true v rest ≡ true) ⊎ (clause_true v known ≡ true)) [ inl o ↦ inl (or_right (literal_true v m) (clause_true v rest) o) | inr o ↦ inr o ]

-- a true clause has a true literal that is open, or one that is known
open_or_known : (v : ℕ → Value) (known c : List Literal) → clause_true v c ≡ true → (clause_true v (open_of known c) ≡ true) ⊎ (clause_true v known ≡ true)
open_or_known v known [] h = cc
open_or_known v known (m ∷ ms) h =
    at_open v known m ms (open_of known ms) (is_known known m) refl (or_cases (literal_true v m) (clause_true v ms) h) (open_or_known v known ms)

unit_true : (v : ℕ → Value) (known : List Literal) (l : Literal) → clause_true v (l ∷ []) ≡ true → clause_true v (negated l ∷ known) ≡ true → clause_true v known ≡ true
unit_true v known l t n = one_of_two l.positive (truth (v l.term)) (clause_true v known) t n

-- where the steps close, a known literal is true
closes_true : (v : ℕ → Value) (earlier : List (List Literal)) (below : ℕ) → ((s : ℕ) (c : List Literal) → s < below → slice_get earlier s ≡ Some c → clause_true v c ≡ true) → (known : List Literal) (steps : List ℤ) → Closes earlier below known steps → clause_true v known ≡ true
closes_true v earlier below hold known [] k = absurd k
closes_true v earlier below hold known (s ∷ ss) (k, c, m, b, g, f) =
    elim (open_or_known v known c (hold k c b g)) [
      | inr t ↦ t
      | inl t ↦ elim f [
        | inl p ↦ (let e : clause_true v [] ≡ true = subst (λ (x : List Literal). clause_true v x ≡ true) p.0 t in cc)
        | inr (l, p, r) ↦
            unit_true v known l (subst (λ (x : List Literal). clause_true v x ≡ true) p t) (closes_true v earlier below hold (negated l ∷ known) ss r)
      ]
    ]

pub chain_sound : (language : Language) (terms : List Term) (root : Option ℕ) (clauses : List (List Literal)) (below : ℕ) (steps : List ℤ) (clause : List Literal) → Closes clauses below clause steps → IsConsequence language terms root clauses below clause
chain_sound language terms root clauses below steps clause k e v env valued hold = closes_true v clauses below hold.steps clause steps k
