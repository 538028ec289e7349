-- The terms of lemmas can stand in a certificate: a kind without index has the index 0, and arguments are below 2^32.
use Rattle.std.proofs.Common.{◌≡◌, ◌<◌, ◌≤◌, ◌^◌, ℕ, ℤ, pos, negsuc, Bool, true, false, ◌&&◌, List, [], ◌∷◌, length, All, inl, inr, get_or, Some, refl, ap, sym, subst, arith, true≢false}
use Rattle.std.specs.Prelude.{FitsSigned}
use Rattle.std.specs.Int.{w128}
use Rattle.std.proofs.lemmas.Bool.{eqb-true}
use Rattle.std.proofs.lemmas.Option.{slice_get-get_or}
use Rattle.std.proofs.lemmas.List.Elements.{All-push, All-weaker}
use Rattle.terms.specs.declared.term.Term.{Term}
use Rattle.terms.specs.declared.term.Kind.{Kind}
use Rattle.terms.specs.declared.term.Kind.TheVariants as k
use Rattle.terms.specs.declared.sort.Sort.{Sort}
use Rattle.terms.specs.declared.sort.Sort.TheVariants as s
use Rattle.terms.specs.declared.sort.Column.{Column}
use Rattle.terms.specs.Sorts.{when, is_zero, choice, sort_in as sort_of}
use Rattle.terms.specs.Formula.{Formula, Formulas, Node, Stop, With, term, Interns, Numbers, AllNumbers}
use Rattle.term_graph.specs.Graph.{IsGraph}
use Rattle.term_meaning.specs.Columns.{column_sorts}
use Rattle.term_meaning.specs.Meaning.{Language, sorts_in, quantified_sorts}
use Rattle.axiom_parameters.specs.Laws.{IsSorted}
use Rattle.axiom_parameters.proofs.Sorts.{AreSorted, there, arguments_sorted}
use Rattle.cert_format.specs.Text.{IsTerm, has_index}

-- ---- an index that isn't written

-- a term whose kind has no index has the index 0
abbrev pub IsPlain : Term → Type 0
IsPlain t = has_index t.kind ≡ false → t.index ≡ pos 0

zero_is : (n : ℤ) → is_zero n ≡ true → n ≡ pos 0
zero_is (pos n) h = ap pos (eqb-true n 0 h)
zero_is (negsuc n) h = absurd (cc)

when_zero : (b c : Bool) (x y : Sort) → when (b && c) x ≡ Some y → b ≡ true
when_zero true c x y h = refl
when_zero false c x y h = absurd (cc)

when_holds : (b : Bool) (x y : Sort) → when b x ≡ Some y → b ≡ true
when_holds true x y h = refl
when_holds false x y h = absurd (cc)

choice_zero : (n : ℤ) (args : List Sort) (x : Sort) → choice n args ≡ Some x → is_zero n ≡ true
choice_zero n (s.Bool ∷ s.Int ∷ s.Int ∷ []) x h = when_holds (is_zero n) s.Int x h
choice_zero n (s.Bool ∷ s.Ref ∷ s.Ref ∷ []) x h = when_holds (is_zero n) s.Ref x h
choice_zero n _ x h = absurd (cc)

sorted_zero : (kind : Kind) (n : ℤ) (args : List Sort) (columns : List Column) (formulas : List (List Sort)) (x : Sort) → sort_of kind n args columns formulas ≡ Some x → has_index kind ≡ false → is_zero n ≡ true
sorted_zero k.Int n args columns formulas x h e = absurd (true≢false e)
sorted_zero k.Ci n args columns formulas x h e = absurd (true≢false e)
sorted_zero k.Cr n args columns formulas x h e = absurd (true≢false e)
sorted_zero k.Ch n args columns formulas x h e = absurd (true≢false e)
sorted_zero k.Get n args columns formulas x h e = absurd (true≢false e)
sorted_zero k.Set n args columns formulas x h e = absurd (true≢false e)
sorted_zero k.All n args columns formulas x h e = absurd (true≢false e)
sorted_zero k.Cex n args columns formulas x h e = absurd (true≢false e)
sorted_zero k.Ite n args columns formulas x h e = choice_zero n args x h
sorted_zero _ n args columns formulas x h e = when_zero (is_zero n) _ _ x h

sorted_plain : (l : Language) (kind : Kind) (n : ℤ) (fs : Formulas) (args : List ℕ) → IsSorted l (Node kind n fs) → IsPlain (term kind n args)
sorted_plain l kind n fs args (x, h) e =
    let (ss, _, is) = there (λ args. sort_of kind n args (column_sorts l.program) (quantified_sorts l)) (sorts_in l fs) x h in
    zero_is n (sorted_zero kind n ss (column_sorts l.program) (quantified_sorts l) x is e)

-- ---- the terms of formulas with sorts

interned_plain : (l : Language) (mid new : List Term) (kind : Kind) (n : ℤ) (args : List ℕ) (id : ℕ) (fs : Formulas) → All IsPlain mid → IsSorted l (Node kind n fs) → Interns mid (term kind n args) new id → All IsPlain new
interned_plain l mid new kind n args id fs h s (inl i) = subst (λ (ts : List Term). All IsPlain ts) (sym i.0) h
interned_plain l mid new kind n args id fs h s (inr i) =
    subst (λ (ts : List Term). All IsPlain ts) (sym i.1) (All-push IsPlain mid (term kind n args) h (sorted_plain l kind n fs args s))

mutual
  pub numbers_plain : (l : Language) (f : Formula) (old new : List Term) (id : ℕ) → All IsPlain old → IsSorted l f → Numbers f old new id → All IsPlain new
  numbers_plain l (Node kind n fs) old new id h s (mid, args, all, i) =
      interned_plain l mid new kind n args id fs (all_numbers_plain l fs old mid args h (arguments_sorted l kind n fs s) all) s i

  pub all_numbers_plain : (l : Language) (fs : Formulas) (old new : List Term) (ids : List ℕ) → All IsPlain old → AreSorted l fs → AllNumbers fs old new ids → All IsPlain new
  all_numbers_plain l Stop old new ids h s e = subst (λ (ts : List Term). All IsPlain ts) (sym e.0) h
  all_numbers_plain l (With f fs) old new ids h s (mid, a, as', x, y, e) = all_numbers_plain l fs mid new as' (numbers_plain l f old mid a h s.0 x) s.1 y

-- ---- arguments

-- each argument has 32 bits
abbrev pub AreSmall : List ℕ → Type 0
AreSmall ns = All (λ a. a < 2 ^ 32) ns

pub below_small : (count : ℕ) (ns : List ℕ) → count ≤ 1_048_576 → All (λ a. a < count) ns → AreSmall ns
below_small count ns few h = All-weaker (λ a. a < count) (λ a. a < 2 ^ 32) (λ a below. omega (arith, below, few)) ns h

-- arguments are terms before their own
pub arguments_small : (ts : List Term) → IsGraph ts → length ts ≤ 1_048_576 → All (λ (t : Term). AreSmall t.args) ts
arguments_small ts graph few i d h =
    below_small i (get_or ts i d).args (omega (arith, h, few)) (graph.downward i (get_or ts i d) (slice_get-get_or ts i d h))

-- terms of a certificate
pub are_terms : (ts : List Term) → All (λ (t : Term). FitsSigned w128 t.index) ts → All IsPlain ts → All (λ (t : Term). AreSmall t.args) ts → All IsTerm ts
are_terms ts fit plain small i d h = record { index = fit i d h; plain = plain i d h; args = small i d h }
