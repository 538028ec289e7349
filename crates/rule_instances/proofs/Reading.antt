-- Numbers, one by one, and the terms that they name.
use Rattle.std.specs.Prelude.{◌≡◌, FitsSigned, ℕ, zero, suc, ℤ, pos, negsuc, ◌<ℤ◌, ◌<◌, ◌≤◌, ◌+◌, ◌-◌, Bool, true, false, List, [], ◌∷◌, ◌++◌, take, drop, length, replicate, Option, Some, None, MatchOption, slice_get, option_and_then, option_map}
use Rattle.std.proofs.Common.{refl, sym, ap, ◌∙◌, subst, arith, get_or, Vec, Global}
use Rattle.std.specs.Int.{w128}
use Rattle.std.specs.Int.RustNames.{unsigned_abs}
use Rattle.std.proofs.lemmas.Int.{ints}
use Rattle.std.proofs.Math.ListN.{drop_of_length-le}
use Rattle.std.proofs.lemmas.List.{append_assoc}
use Rattle.terms.specs.declared.sort.Sort.{Sort}
use Rattle.terms.specs.declared.sort.Sort.TheVariants as s
use Rattle.terms.specs.declared.term.Term.{Term}
use Rattle.terms.specs.Formula.{Formula}
use Rattle.term_meaning.specs.Meaning.{Language, sort_in}
use Rattle.axiom_instances.specs.Fitting.{Row, fits, needs, number, term, terms, refs, is_sort}
use Rattle.condition_formulas.specs.Standing.{StandAll}
use Rattle.condition_formulas.proofs.Rows.{none, then_one}
use Rattle.rule_instances.specs.declared.block.Block.{Block}
use Rattle.axiom_steps.specs.Steps.{at, naturals}
use Rattle.rule_instances.specs.Reading.{Refuses, IsName, IsBlock, TakesNumber, any, TakesFormula, TakesFormulas}

-- A row that gives nothing for any numbers gives nothing; rows that agree give the same.
by_naturals : (row row' : Row) → ((ns : List ℕ) → row ns ≡ row' ns) → (found : Option (List ℕ)) → option_and_then row found ≡ option_and_then row' found
by_naturals row row' same None = refl
by_naturals row row' same (Some ns) = same ns

pub rows_agree : (row row' : Row) → ((ns : List ℕ) → row ns ≡ row' ns) → (zs : List ℤ) → at row zs ≡ at row' zs
rows_agree row row' same zs = by_naturals row row' same (naturals zs)

pub nothing : (found : Option (List ℕ)) → option_and_then {T = List ℕ} {U = Formula} (λ ns. None) found ≡ None
nothing None = refl
nothing (Some ns) = refl

pub row_refuses : (row : Row) → ((ns : List ℕ) → row ns ≡ None) → (zs : List ℤ) → at row zs ≡ None
row_refuses row none zs = rows_agree row (λ ns. None) none zs ∙ nothing (naturals zs)

-- The next number.
first_of : (row : ℕ → Row) (n : ℕ) (found : Option (List ℕ)) → option_and_then (number row) (option_map (λ ns. n ∷ ns) found) ≡ option_and_then (row n) found
unfolding number
first_of row n None = refl
first_of row n (Some ns) = refl

empty_refuses : (row : ℕ → Row) → at (number row) [] ≡ None
unfolding number
empty_refuses row = refl

pub no_number : {old : List ℤ} → old ≡ [] → Refuses number old
no_number e = subst (λ zs. Refuses number zs) (sym e) (record { none = λ row. empty_refuses row })

pub negative : {old new : List ℤ} {z : ℤ} → old ≡ z ∷ new → z <ℤ pos 0 → Refuses number old
negative {old} {new} {z} e below = subst (λ zs. Refuses number zs) (sym e) (by_sign z below)
  where
    by_sign : (z : ℤ) → z <ℤ pos 0 → Refuses number (z ∷ new)
    by_sign (pos n) below = absurd (omega (arith, ints, below))
    by_sign (negsuc n) below = record { none = λ row. refl }

pub a_number : {old new : List ℤ} {z : ℤ} {n : ℕ} → old ≡ z ∷ new → (z <ℤ pos 0 → ⊥) → FitsSigned w128 z → n ≡ unsigned_abs z → TakesNumber old new n
a_number {old} {new} {z} {n} e above bound is = subst (λ zs. TakesNumber zs new n) (sym e) (subst (λ m. TakesNumber (z ∷ new) new m) (sym is) (by_sign z above bound))
  where
    by_sign : (z : ℤ) → (z <ℤ pos 0 → ⊥) → FitsSigned w128 z → TakesNumber (z ∷ new) new (unsigned_abs z)
    by_sign (pos n) above bound = record { takes = record { goes = λ row. first_of row n (naturals new) }; bound = omega (arith, ints, bound) }
    by_sign (negsuc n) above bound = absurd (above (omega (arith, ints)))

-- Terms by their numbers.

pub named : (P : ℕ → Type 0) (Q : Type 0) (found : Option ℕ) → MatchOption found Q P → (id : ℕ) → Some id ≡ found → P id
named P Q found is id e = subst (λ (o : Option ℕ). MatchOption o Q P) (sym e) is

pub unnamed : (P : ℕ → Type 0) (Q : Type 0) (found : Option ℕ) → MatchOption found Q P → None ≡ found → Q
unnamed P Q found is e = subst (λ (o : Option ℕ). MatchOption o Q P) (sym e) is

pub there : {X : Type 0} (row : X → Row) (found : Option X) (x : X) → found ≡ Some x → (zs : List ℤ) → at (needs found row) zs ≡ at (row x) zs
unfolding needs
there row found x e zs = ap (λ o. at (needs o row) zs) e

pub missing : {X : Type 0} (row : X → Row) (found : Option X) → found ≡ None → (zs : List ℤ) → at (needs found row) zs ≡ None
unfolding needs
missing row found e zs = ap (λ o. at (needs o row) zs) e ∙ row_refuses (λ ns. None) (λ ns. refl) zs

-- no number is next: no term
pub none_any : {old : List ℤ} (tree : ℕ → Option Formula) → Refuses number old → Refuses (any tree) old
none_any tree refuses = record { none = λ row. refuses.none _ }

-- the next number names none
pub unnamed_any : {block : Block} {ts : List Term} {l : Language} {tree : ℕ → Option Formula} {old new : List ℤ} {n : ℕ} → IsBlock block ts l tree → TakesNumber old new n → None ≡ slice_get block.names.now n → Refuses (any tree) old
unnamed_any {block} {ts} {l} {tree} {new = new} {n} is taken name = record {
  none = λ row. taken.takes.goes (λ m. needs (tree m) row) ∙ missing row (tree n) (unnamed (λ id. IsName ts block.sorts.now l id (tree n)) (tree n ≡ None) (slice_get block.names.now n) (is.names n) name) new;
}

it_of : {block : Block} {ts : List Term} {l : Language} {tree : ℕ → Option Formula} {id : ℕ} (n : ℕ) → IsBlock block ts l tree → Some id ≡ slice_get block.names.now n → IsName ts block.sorts.now l id (tree n)
it_of {block} {ts} {l} {tree} {id} n is name = named (λ i. IsName ts block.sorts.now l i (tree n)) (tree n ≡ None) (slice_get block.names.now n) (is.names n) id name

-- it names this one
pub named_any : {block : Block} {ts : List Term} {l : Language} {tree : ℕ → Option Formula} {old new : List ℤ} {n id : ℕ} → IsBlock block ts l tree → TakesNumber old new n → Some id ≡ slice_get block.names.now n → TakesFormula (any tree) ts old new id
named_any {block} {ts} {l} {tree} {new = new} {n} {id} is taken name =
    let it = it_of n is name in
    record { formula = it.formula; stands = it.stands; takes = record { goes = λ row. taken.takes.goes (λ m. needs (tree m) row) ∙ there row (tree n) it.formula it.is new } }

pub of_sort : (b : Bool) (row : Row) (zs : List ℤ) → b ≡ true → at (fits b row) zs ≡ at row zs
unfolding fits
of_sort b row zs e = ap (λ c. at (fits c row) zs) e

pub not_of_sort : (b : Bool) (row : Row) (zs : List ℤ) → b ≡ false → at (fits b row) zs ≡ None
unfolding fits
not_of_sort b row zs e = ap (λ c. at (fits c row) zs) e ∙ row_refuses (λ ns. None) (λ ns. refl) zs

as_any : (l : Language) (tree : ℕ → Option Formula) (sort : Sort) (row : Formula → Row) → term l tree sort row ≡ any tree (λ f. fits (is_sort sort (sort_in l f)) (row f))
unfolding term
as_any l tree sort row = refl

pub none_term : {old : List ℤ} (l : Language) (tree : ℕ → Option Formula) (sort : Sort) → Refuses number old → Refuses (term l tree sort) old
none_term {old} l tree sort refuses = record { none = λ row. ap (λ r. at r old) (as_any l tree sort row) ∙ refuses.none _ }

pub unnamed_term : {block : Block} {ts : List Term} {l : Language} {tree : ℕ → Option Formula} {old new : List ℤ} {n : ℕ} (sort : Sort) → IsBlock block ts l tree → TakesNumber old new n → None ≡ slice_get block.names.now n → Refuses (term l tree sort) old
unnamed_term {l = l} {tree} {old} sort is taken name = record { none = λ row. ap (λ r. at r old) (as_any l tree sort row) ∙ (unnamed_any is taken name).none _ }

pub wrong_sort : {block : Block} {ts : List Term} {l : Language} {tree : ℕ → Option Formula} {old new : List ℤ} {n id : ℕ} {b : Bool} (sort : Sort) → IsBlock block ts l tree → TakesNumber old new n → Some id ≡ slice_get block.names.now n → ((s : Option Sort) → slice_get block.sorts.now id ≡ Some s → b ≡ is_sort sort s) → b ≡ false → Refuses (term l tree sort) old
wrong_sort {l = l} {tree} {old} {new} {n} sort is taken name test fails =
    let it = it_of n is name in
    record { none = λ row. ap (λ r. at r old) (as_any l tree sort row) ∙ taken.takes.goes _ ∙ there _ (tree n) it.formula it.is new ∙ not_of_sort _ (row it.formula) new (sym (test _ it.sort) ∙ fails) }

pub right_sort : {block : Block} {ts : List Term} {l : Language} {tree : ℕ → Option Formula} {old new : List ℤ} {n id : ℕ} {b : Bool} (sort : Sort) → IsBlock block ts l tree → TakesNumber old new n → Some id ≡ slice_get block.names.now n → ((s : Option Sort) → slice_get block.sorts.now id ≡ Some s → b ≡ is_sort sort s) → b ≡ true → TakesFormula (term l tree sort) ts old new id
right_sort {l = l} {tree} {old} {new} {n} sort is taken name test holds =
    let it = it_of n is name in
    record { formula = it.formula; stands = it.stands; takes = record { goes = λ row. ap (λ r. at r old) (as_any l tree sort row) ∙ taken.takes.goes _ ∙ there _ (tree n) it.formula it.is new ∙ of_sort _ (row it.formula) new (sym (test _ it.sort) ∙ holds) } }

-- Terms of several sorts.

-- what the loop over sorts keeps: with these formulas taken, the rest of the sorts is left
pub record Taken (l : Language) (tree : ℕ → Option Formula) (ts : List Term) (sorts rest : List Sort) (old now : List ℤ) (ids : List ℕ) : Type 0 where
  pub formulas : List Formula
  pub stand : StandAll ts ids formulas
  pub goes : (row : List Formula → Row) → at (terms l tree sorts row) old ≡ at (terms l tree rest (λ gs. row (formulas ++ gs))) now

pub none_taken : (l : Language) (tree : ℕ → Option Formula) (ts : List Term) (sorts : List Sort) (old : List ℤ) → Taken l tree ts sorts sorts old old []
none_taken l tree ts sorts old = record { formulas = []; stand = none; goes = λ row. refl }

terms_none : (l : Language) (tree : ℕ → Option Formula) (row : List Formula → Row) → terms l tree [] row ≡ row []
unfolding terms
terms_none l tree row = refl

terms_more : (l : Language) (tree : ℕ → Option Formula) (sort : Sort) (rest : List Sort) (row : List Formula → Row) → terms l tree (sort ∷ rest) row ≡ term l tree sort (λ f. terms l tree rest (λ fs. row (f ∷ fs)))
unfolding terms
terms_more l tree sort rest row = refl

behind_one : (row : List Formula → Row) (fs : List Formula) (f : Formula) → ◌≡◌ {A = List Formula → Row} (λ gs. row (fs ++ f ∷ gs)) (λ gs. row ((fs ++ f ∷ []) ++ gs))
behind_one row fs f = λ i gs. row (sym (append_assoc fs (f ∷ []) gs) i)

-- one more is taken
pub one_taken : {l : Language} {tree : ℕ → Option Formula} {ts : List Term} {sorts left rest : List Sort} {old now next : List ℤ} {ids more : List ℕ} {id : ℕ} {sort : Sort} → Taken l tree ts sorts left old now ids → TakesFormula (term l tree sort) ts now next id → left ≡ sort ∷ rest → more ≡ ids ++ id ∷ [] → Taken l tree ts sorts rest old next more
one_taken {l} {tree} {ts} {sorts} {rest = rest} {old} {now} {next} {ids} {more} {id} {sort} taken one is grown = record {
  formulas = taken.formulas ++ one.formula ∷ [];
  stand = subst (λ (is : List ℕ). StandAll ts is (taken.formulas ++ one.formula ∷ [])) (sym grown) (then_one taken.stand one.stands);
  goes = λ row. taken.goes row ∙ ap (λ (ss : List Sort). at (terms l tree ss (λ gs. row (taken.formulas ++ gs))) now) is ∙ ap (λ r. at r now) (terms_more l tree sort rest (λ gs. row (taken.formulas ++ gs))) ∙ one.takes.goes _ ∙ ap (λ r. at (terms l tree rest r) next) (behind_one row taken.formulas one.formula);
}

-- the next one is refused
pub one_refused : {l : Language} {tree : ℕ → Option Formula} {ts : List Term} {sorts rest : List Sort} {old now : List ℤ} {ids : List ℕ} {left : List Sort} {sort : Sort} → Taken l tree ts sorts left old now ids → Refuses (term l tree sort) now → left ≡ sort ∷ rest → Refuses (terms l tree sorts) old
one_refused {l} {tree} {rest = rest} {now = now} {sort = sort} taken refused is = record {
  none = λ row. taken.goes row ∙ ap (λ (ss : List Sort). at (terms l tree ss (λ gs. row (taken.formulas ++ gs))) now) is ∙ ap (λ r. at r now) (terms_more l tree sort rest (λ gs. row (taken.formulas ++ gs))) ∙ refused.none _;
}

append_none : (fs : List Formula) → fs ++ [] ≡ fs
append_none [] = refl
append_none (f ∷ fs) = ap (λ gs. f ∷ gs) (append_none fs)

-- all are taken
pub all_taken : {l : Language} {tree : ℕ → Option Formula} {ts : List Term} {sorts : List Sort} {old now : List ℤ} {ids : List ℕ} {left : List Sort} → Taken l tree ts sorts left old now ids → left ≡ [] → TakesFormulas (terms l tree sorts) ts old now ids
all_taken {l} {tree} {now = now} taken is = record {
  formulas = taken.formulas;
  stand = taken.stand;
  takes = record { goes = λ row. taken.goes row ∙ ap (λ (ss : List Sort). at (terms l tree ss (λ gs. row (taken.formulas ++ gs))) now) is ∙ ap (λ r. at r now) (terms_none l tree (λ gs. row (taken.formulas ++ gs))) ∙ ap (λ fs. at (row fs) now) (append_none taken.formulas) };
}

-- A list of references.

as_refs : (l : Language) (tree : ℕ → Option Formula) (row : List Formula → Row) → refs l tree row ≡ number (λ n. terms l tree (replicate n s.Ref) row)
unfolding refs
as_refs l tree row = refl

pub no_refs : {old : List ℤ} (l : Language) (tree : ℕ → Option Formula) → Refuses number old → Refuses (refs l tree) old
no_refs {old} l tree refuses = record { none = λ row. ap (λ r. at r old) (as_refs l tree row) ∙ refuses.none _ }

-- more than there are
fits_refuses : (b : Bool) (row : Row) (zs : List ℤ) → at row zs ≡ None → at (fits b row) zs ≡ None
unfolding fits
fits_refuses true row zs e = e
fits_refuses false row zs e = nothing (naturals zs)

needs_refuses : (found : Option Formula) (row : Formula → Row) (zs : List ℤ) → ((f : Formula) → at (row f) zs ≡ None) → at (needs found row) zs ≡ None
unfolding needs
needs_refuses None row zs e = nothing (naturals zs)
needs_refuses (Some f) row zs e = e f

few_left : (l : Language) (tree : ℕ → Option Formula) (n : ℕ) (old : List ℤ) (row : List Formula → Row) → length old < n → at (terms l tree (replicate n s.Ref) row) old ≡ None
few_left l tree zero old row few = absurd (omega arith)
few_left l tree (suc n) [] row few = ap (λ (r : Row). at r []) (terms_more l tree s.Ref (replicate n s.Ref) row ∙ as_any l tree s.Ref (λ f. terms l tree (replicate n s.Ref) (λ fs. row (f ∷ fs)))) ∙ empty_refuses _
few_left l tree (suc n) (negsuc z ∷ zs) row few = refl
few_left l tree (suc n) (pos z ∷ zs) row few =
    ap (λ (r : Row). at r (pos z ∷ zs)) (terms_more l tree s.Ref (replicate n s.Ref) row ∙ as_any l tree s.Ref (λ f. terms l tree (replicate n s.Ref) (λ fs. row (f ∷ fs)))) ∙ first_of (λ m. needs (tree m) (λ f. fits (is_sort s.Ref (sort_in l f)) (terms l tree (replicate n s.Ref) (λ fs. row (f ∷ fs))))) z (naturals zs)
    ∙ needs_refuses (tree z) (λ f. fits (is_sort s.Ref (sort_in l f)) (terms l tree (replicate n s.Ref) (λ fs. row (f ∷ fs)))) zs (λ f. fits_refuses (is_sort s.Ref (sort_in l f)) (terms l tree (replicate n s.Ref) (λ fs. row (f ∷ fs))) zs (few_left l tree n zs (λ fs. row (f ∷ fs)) (omega (arith, few))))

pub too_many : {old new : List ℤ} {n : ℕ} (l : Language) (tree : ℕ → Option Formula) → TakesNumber old new n → length new < n → Refuses (refs l tree) old
too_many {old} {new} {n} l tree taken few = record { none = λ row. ap (λ r. at r old) (as_refs l tree row) ∙ taken.takes.goes _ ∙ few_left l tree n new row few }

pub refuse_refs : {old new : List ℤ} {n : ℕ} {sorts : List Sort} (l : Language) (tree : ℕ → Option Formula) → TakesNumber old new n → sorts ≡ replicate n s.Ref → Refuses (terms l tree sorts) new → Refuses (refs l tree) old
refuse_refs {old} {new} l tree taken e refused = record { none = λ row. ap (λ r. at r old) (as_refs l tree row) ∙ taken.takes.goes _ ∙ ap (λ ss. at (terms l tree ss row) new) (sym e) ∙ refused.none row }

pub take_refs : {old new next : List ℤ} {n : ℕ} {sorts : List Sort} {ts : List Term} {ids : List ℕ} (l : Language) (tree : ℕ → Option Formula) → TakesNumber old new n → sorts ≡ replicate n s.Ref → TakesFormulas (terms l tree sorts) ts new next ids → TakesFormulas (refs l tree) ts old next ids
take_refs {old} {new} l tree taken e all = record { formulas = all.formulas; stand = all.stand; takes = record { goes = λ row. ap (λ r. at r old) (as_refs l tree row) ∙ taken.takes.goes _ ∙ ap (λ ss. at (terms l tree ss row) new) (sym e) ∙ all.takes.goes row } }

pub refs_of : {old new : List ℤ} {n : ℕ} {sorts : List Sort} (next : List ℤ) (ts : List Term) (l : Language) (tree : ℕ → Option Formula) (found : Option (Vec ℕ Global)) → TakesNumber old new n → sorts ≡ replicate n s.Ref → MatchOption found (Refuses (terms l tree sorts) new) (λ all. TakesFormulas (terms l tree sorts) ts new next all.items) → MatchOption found (Refuses (refs l tree) old) (λ all. TakesFormulas (refs l tree) ts old next all.items)
refs_of next ts l tree None taken e refused = refuse_refs l tree taken e refused
refs_of next ts l tree (Some all) taken e formulas = take_refs l tree taken e formulas

-- an element, and those behind it
pub drop_here : {X : Type 0} (xs : List X) (i : ℕ) (d : X) → i < length xs → drop i xs ≡ get_or xs i d ∷ drop (i + 1) xs
drop_here {X} xs i d below = steps xs i below ∙ ap (λ (j : ℕ). get_or xs i d ∷ drop j xs) next
  where
    next : suc i ≡ i + 1
    next = omega arith

    steps : (xs : List X) (i : ℕ) → i < length xs → drop i xs ≡ get_or xs i d ∷ drop (suc i) xs
    steps [] i below = absurd (omega arith)
    steps (x ∷ xs) zero below = refl
    steps (x ∷ xs) (suc i) below = steps xs i (omega (arith, below))

pub drop_end : {X : Type 0} (xs : List X) (i : ℕ) → length xs ≤ i → drop i xs ≡ []
drop_end xs i above = drop_of_length-le xs above

-- an empty vector that is filled up
pub filled_up : {sorts old : List Sort} (n : ℕ) {len : ℕ} → old ≡ [] → len ≡ 0 → sorts ≡ take n old ++ replicate (n - len) s.Ref → sorts ≡ replicate n s.Ref
filled_up {sorts} {old} n {len} empty zero_long is =
    let all : n - len ≡ n = omega (arith, zero_long) in
    is ∙ ap (λ xs. take n xs ++ replicate (n - len) s.Ref) empty ∙ ap (λ xs. xs ++ replicate (n - len) s.Ref) (take_none n) ∙ ap (λ m. replicate m s.Ref) all
  where
    take_none : (n : ℕ) → ◌≡◌ {A = List Sort} (take n []) []
    take_none zero = refl
    take_none (suc n) = refl
