-- Clean heap terms, by the numbers of nodes.
use Rattle.std.specs.Prelude.{◌≡◌, ◌<◌, ◌⊎◌, All, length, IfSome, IfNone, ℕ, ℤ, pos, negsuc, ◌<ℤ◌, Bool, true, false, ◌&&◌, int_le, List, [], ◌∷◌, ◌++◌, Option, Some, None, slice_get}
use Rattle.std.proofs.Common.{refl, sym, ap, ◌∙◌, subst, inl, inr, arith}
use Rattle.std.specs.Int.RustNames.{unsigned_abs}
use Rattle.std.proofs.lemmas.Int.{ints}
use Rattle.std.proofs.lemmas.List.Elements.{All-head}
use Rattle.method.specs.declared.program.Program.{Program}
use Rattle.terms.specs.declared.term.Term.{Term}
use Rattle.terms.specs.declared.term.Kind.{Kind}
use Rattle.terms.specs.declared.term.Kind.TheVariants as k
use Rattle.terms.specs.Formula.{Formula, Formulas, Node}
use Rattle.conditions.specs.Formulas.{row}
use Rattle.term_meaning.specs.Columns as c
use Rattle.term_meaning.specs.Meaning.{column_at}
use Rattle.axiom_instances.specs.Terms.{kind_of, is_int, is_numeral_to, last_is, limit_of, is_within, stores_cleanly, is_set_column, is_clean, first_clean, is_clean_read}
use Rattle.condition_formulas.specs.Standing.{StandsAs, StandAll, Each}
use Rattle.condition_formulas.proofs.Walks.{Opened}
use Rattle.rule_instances.specs.Clean.{is_heap_constant, IsBefore, IsOrigin, IsDown}
use Rattle.rule_instances.proofs.Places.{each_at, none_at}

-- Numerals.
numeral_node : (greatest : ℤ) {ts : List Term} {t : Term} {f : Formula} → Opened ts t f → is_numeral_to greatest f ≡ (is_int t.kind && (int_le (pos 0) t.index && int_le t.index greatest))
numeral_node greatest {t = t} o = ap (is_numeral_to greatest) o.is

pub numeral : {ts : List Term} {t : Term} {f : Formula} {b : Bool} (greatest : ℤ) → Opened ts t f → t.kind ≡ k.Int → b ≡ (int_le (pos 0) t.index && int_le t.index greatest) → b ≡ is_numeral_to greatest f
numeral {t = t} greatest o is e = e ∙ sym (numeral_node greatest o ∙ ap (λ (j : Kind). is_int j && (int_le (pos 0) t.index && int_le t.index greatest)) is)

not_int : (kind : Kind) (b : Bool) → (kind ≡ k.Int → ⊥) → false ≡ (is_int kind && b)
not_int k.Int b not = absurd (not refl)
not_int kind b not = refl

pub no_numeral : {ts : List Term} {t : Term} {f : Formula} (greatest : ℤ) → Opened ts t f → (t.kind ≡ k.Int → ⊥) → false ≡ is_numeral_to greatest f
no_numeral {t = t} greatest o not = not_int t.kind (int_le (pos 0) t.index && int_le t.index greatest) not ∙ sym (numeral_node greatest o)

-- What a column stores.
pub any_value : (column : c.Column) (f : Formula) → None ≡ limit_of column → true ≡ is_within (limit_of column) f
any_value column f e = ap (λ (o : Option ℤ). is_within o f) e

pub a_value : (column : c.Column) (f : Formula) (greatest : ℤ) {b : Bool} → Some greatest ≡ limit_of column → b ≡ is_numeral_to greatest f → b ≡ is_within (limit_of column) f
a_value column f greatest e is = is ∙ ap (λ (o : Option ℤ). is_within o f) e

-- The last argument.
record IsLast (ts : List Term) (id : ℕ) (fs : List Formula) : Type 0 where
  formula : Formula
  stands : StandsAs ts id formula
  last : (test : Formula → Bool) → last_is test (row fs) ≡ test formula

none_left : (ts : List Term) (before : List ℕ) (id : ℕ) → Each ts (before ++ id ∷ []) [] → ⊥
none_left ts [] id each = each
none_left ts (b ∷ bs) id each = each

is_last : (ts : List Term) (before : List ℕ) (id : ℕ) (fs : List Formula) → Each ts (before ++ id ∷ []) fs → IsLast ts id fs
is_last ts before id [] each = absurd (none_left ts before id each)
is_last ts [] id (f ∷ []) each = record { formula = f; stands = each.0; last = λ test. refl }
is_last ts [] id (f ∷ g ∷ gs) each = absurd each.1
is_last ts (b ∷ bs) id (f ∷ []) each = absurd (none_left ts bs id each.1)
is_last ts (b ∷ bs) id (f ∷ g ∷ gs) each =
    let one = is_last ts bs id (g ∷ gs) each.1 in
    record { formula = one.formula; stands = one.stands; last = one.last }

pub no_last : {ts : List Term} {ids : List ℕ} (test : Formula → Bool) (fs : List Formula) → StandAll ts ids fs → length ids ≡ 0 → false ≡ last_is test (row fs)
no_last {ts} {ids} test fs all e = by_none fs (subst (λ (js : List ℕ). Each ts js fs) (empty ids e) all.each)
  where
    empty : (xs : List ℕ) → length xs ≡ 0 → xs ≡ []
    empty [] e = refl
    empty (x ∷ xs) e = absurd (omega arith)

    by_none : (fs : List Formula) → Each ts [] fs → false ≡ last_is test (row fs)
    by_none [] each = refl
    by_none (f ∷ fs) each = absurd each

pub the_last : {ts : List Term} {ids : List ℕ} {id : ℕ} {b : Bool} (before : List ℕ) (test : Formula → Bool) (fs : List Formula) → StandAll ts ids fs → ids ≡ before ++ id ∷ [] → ((f : Formula) → StandsAs ts id f → b ≡ test f) → b ≡ last_is test (row fs)
the_last {ts} {ids} {id} before test fs all e is =
    let one = is_last ts before id fs (subst (λ (js : List ℕ). Each ts js fs) e all.each) in
    is one.formula one.stands ∙ sym (one.last test)

-- The first argument.
first_is : (p : Program) (fs : List Formula) (f : Formula) → slice_get fs 0 ≡ Some f → first_clean p (row fs) ≡ is_clean p f
first_is p [] f e = absurd (cc)
first_is p (g ∷ gs) f e = ap (is_clean p) (same e)
  where
    same : Some g ≡ Some f → g ≡ f
    same e = cc

first_part : {ts : List Term} {ids : List ℕ} {id : ℕ} (fs : List Formula) → StandAll ts ids fs → Some id ≡ slice_get ids 0 → (f : Formula) × (slice_get fs 0 ≡ Some f) × StandsAs ts id f
first_part {ts} {ids} {id} fs all e = each_at ts ids fs 0 id all.each e

none_first : {ts : List Term} {ids : List ℕ} (p : Program) (fs : List Formula) → StandAll ts ids fs → None ≡ slice_get ids 0 → first_clean p (row fs) ≡ false
none_first {ts} {ids} p fs all e = by_none fs (none_at ts ids fs 0 all.each e)
  where
    by_none : (fs : List Formula) → slice_get fs 0 ≡ None → first_clean p (row fs) ≡ false
    by_none [] e = refl
    by_none (f ∷ fs) e = absurd (cc)

-- a node that is clean just where its first argument is
pub record LooksBelow (p : Program) (t : Term) (fs : List Formula) : Type 0 where
  pub same : is_clean p (Node t.kind t.index (row fs)) ≡ first_clean p (row fs)

pub goes_below : {ts : List Term} {t : Term} {f : Formula} {id : ℕ} (p : Program) → (o : Opened ts t f) → LooksBelow p t o.parts → Some id ≡ slice_get t.args 0 → IsBefore p ts f id
goes_below p o looks first =
    let part = first_part o.parts o.all first in
    record { heap = part.0; stands = part.2; same = ap (is_clean p) o.is ∙ looks.same ∙ first_is p o.parts part.0 part.1 }

pub stays_here : {ts : List Term} {t : Term} {f : Formula} (p : Program) → (o : Opened ts t f) → LooksBelow p t o.parts → None ≡ slice_get t.args 0 → false ≡ is_heap_constant t.kind → IsOrigin p f
stays_here p o looks none kind = ap (is_clean p) o.is ∙ looks.same ∙ none_first p o.parts o.all none ∙ kind ∙ sym (ap (λ g. is_heap_constant (kind_of g)) o.is)

pub opens_below : (p : Program) (t : Term) (fs : List Formula) (kind : Kind) → t.kind ≡ kind → ((z : ℤ) → is_clean p (Node kind z (row fs)) ≡ first_clean p (row fs)) → LooksBelow p t fs
opens_below p t fs kind is same = record { same = ap (λ (j : Kind). is_clean p (Node j t.index (row fs))) is ∙ same t.index }

-- the three kinds that leave all columns but one's sets alone
pub changes_status : (p : Program) (t : Term) (fs : List Formula) → (t.kind ≡ k.Open) ⊎ (t.kind ≡ k.Close) ⊎ (t.kind ≡ k.Clear) → LooksBelow p t fs × (false ≡ is_heap_constant t.kind)
changes_status p t fs (inl is) = (opens_below p t fs k.Open is (λ z. refl), sym (ap is_heap_constant is))
changes_status p t fs (inr (inl is)) = (opens_below p t fs k.Close is (λ z. refl), sym (ap is_heap_constant is))
changes_status p t fs (inr (inr is)) = (opens_below p t fs k.Clear is (λ z. refl), sym (ap is_heap_constant is))

pub stores : {b : Bool} (p : Program) (t : Term) (fs : List Formula) → t.kind ≡ k.Set → b ≡ last_is (stores_cleanly (column_at p t.index)) (row fs) → b ≡ true → LooksBelow p t fs
stores p t fs is e holds = record {
  same = ap (λ (j : Kind). is_clean p (Node j t.index (row fs))) is ∙ ap (λ (x : Bool). x && first_clean p (row fs)) (sym e ∙ holds);
}

pub stores_else : {ts : List Term} {t : Term} {f : Formula} {b : Bool} (p : Program) → (o : Opened ts t f) → t.kind ≡ k.Set → b ≡ last_is (stores_cleanly (column_at p t.index)) (row o.parts) → b ≡ false → IsOrigin p f
stores_else {t = t} p o is e fails =
    ap (is_clean p) o.is ∙ ap (λ (j : Kind). is_clean p (Node j t.index (row o.parts))) is ∙ ap (λ (x : Bool). x && first_clean p (row o.parts)) (sym e ∙ fails)
    ∙ sym (ap (λ g. is_heap_constant (kind_of g)) o.is ∙ ap is_heap_constant is)

other : (p : Program) (z : ℤ) (fs : Formulas) (kind : Kind) → (kind ≡ k.Set → ⊥) → (kind ≡ k.Open → ⊥) → (kind ≡ k.Close → ⊥) → (kind ≡ k.Clear → ⊥) → is_clean p (Node kind z fs) ≡ is_heap_constant kind
other p z fs k.Set no_set no_open no_close no_clear = absurd (no_set refl)
other p z fs k.Open no_set no_open no_close no_clear = absurd (no_open refl)
other p z fs k.Close no_set no_open no_close no_clear = absurd (no_close refl)
other p z fs k.Clear no_set no_open no_close no_clear = absurd (no_clear refl)
other p z fs k.Ch no_set no_open no_close no_clear = refl
other p z fs kind no_set no_open no_close no_clear = refl

pub no_change : {ts : List Term} {t : Term} {f : Formula} (p : Program) → Opened ts t f → (t.kind ≡ k.Set → ⊥) → (t.kind ≡ k.Open → ⊥) → (t.kind ≡ k.Close → ⊥) → (t.kind ≡ k.Clear → ⊥) → IsOrigin p f
no_change {t = t} p o no_set no_open no_close no_clear = ap (is_clean p) o.is ∙ other p t.index (row o.parts) t.kind no_set no_open no_close no_clear ∙ sym (ap (λ g. is_heap_constant (kind_of g)) o.is)

-- The kind of a constant.
pub constant_kind : {ts : List Term} {t : Term} {f : Formula} {b : Bool} → Opened ts t f → b ≡ is_heap_constant t.kind → b ≡ is_heap_constant (kind_of f)
constant_kind o e = e ∙ sym (ap (λ g. is_heap_constant (kind_of g)) o.is)

-- The way down.
pub at_top : (p : Program) (ts : List Term) (id : ℕ) → IsDown p ts id id
at_top p ts id = record { goes = λ f stands. record { heap = f; stands = stands; same = refl } }

pub one_down : {p : Program} {ts : List Term} {id now next : ℕ} → IsDown p ts id now → ((f : Formula) → StandsAs ts now f → IsBefore p ts f next) → IsDown p ts id next
one_down down more = record {
  goes = λ f stands.
      let a = down.goes f stands in
      let b = more a.heap a.stands in
      record { heap = b.heap; stands = b.stands; same = a.same ∙ b.same };
}

pub at_bottom : {p : Program} {ts : List Term} {id now : ℕ} {b : Bool} → IsDown p ts id now → ((f : Formula) → StandsAs ts now f → IsOrigin p f) → ((f : Formula) → StandsAs ts now f → b ≡ is_heap_constant (kind_of f)) → (f : Formula) → StandsAs ts id f → b ≡ is_clean p f
at_bottom down origin is f stands =
    let a = down.goes f stands in
    is a.heap a.stands ∙ sym (a.same ∙ origin a.heap a.stands)

-- Reads.
pub of_set : {ts : List Term} {ids : List ℕ} {id : ℕ} {b r : Bool} (o : Option c.Column) (p : Program) (fs : List Formula) → StandAll ts ids fs → b ≡ is_set_column o → b ≡ true → Some id ≡ slice_get ids 0 → ((f : Formula) → StandsAs ts id f → r ≡ is_clean p f) → r ≡ (is_set_column o && first_clean p (row fs))
of_set {r = r} o p fs all e holds first clean =
    let part = first_part fs all first in
    clean part.0 part.2 ∙ sym (ap (λ (x : Bool). x && first_clean p (row fs)) (sym e ∙ holds) ∙ first_is p fs part.0 part.1)

pub of_no_set : {b : Bool} (o : Option c.Column) (p : Program) (fs : List Formula) → b ≡ is_set_column o → b ≡ false → false ≡ (is_set_column o && first_clean p (row fs))
of_no_set o p fs e fails = sym (ap (λ (x : Bool). x && first_clean p (row fs)) (sym e ∙ fails))

pub of_nothing : {ts : List Term} {ids : List ℕ} (p : Program) (fs : List Formula) (o : Option c.Column) → StandAll ts ids fs → None ≡ slice_get ids 0 → false ≡ (is_set_column o && first_clean p (row fs))
of_nothing p fs o all none = sym (ap (λ (x : Bool). is_set_column o && x) (none_first p fs all none) ∙ and_false (is_set_column o))
  where
    and_false : (b : Bool) → (b && false) ≡ false
    and_false true = refl
    and_false false = refl

pub reads : {ts : List Term} {t : Term} {f : Formula} {b : Bool} (p : Program) → (o : Opened ts t f) → t.kind ≡ k.Get → b ≡ (is_set_column (column_at p t.index) && first_clean p (row o.parts)) → b ≡ is_clean_read p f
reads {t = t} p o is e = e ∙ sym (ap (is_clean_read p) o.is ∙ ap (λ (j : Kind). is_clean_read p (Node j t.index (row o.parts))) is)

no_get : (p : Program) (z : ℤ) (fs : Formulas) (kind : Kind) → (kind ≡ k.Get → ⊥) → false ≡ is_clean_read p (Node kind z fs)
no_get p z fs k.Get not = absurd (not refl)
no_get p z fs kind not = refl

pub no_read : {ts : List Term} {t : Term} {f : Formula} (p : Program) → (o : Opened ts t f) → (t.kind ≡ k.Get → ⊥) → false ≡ is_clean_read p f
no_read {t = t} p o not = no_get p t.index (row o.parts) t.kind not ∙ sym (ap (is_clean_read p) o.is)

-- The column of a node.
pub negative_column : (p : Program) (z : ℤ) → z <ℤ pos 0 → None ≡ column_at p z
negative_column p (pos n) below = absurd (omega (arith, ints, below))
negative_column p (negsuc n) below = refl

pub column_here : {o : Option c.Column} {n : ℕ} (p : Program) (z : ℤ) → (z <ℤ pos 0 → ⊥) → n ≡ unsigned_abs z → o ≡ slice_get (c.columns_of p) n → o ≡ column_at p z
column_here p (pos m) above is e = e ∙ ap (slice_get (c.columns_of p)) is
column_here p (negsuc m) above is e = absurd (above (omega (arith, ints)))

-- what the code says of the last argument, of this column
pub stored_by : {ts : List Term} {t : Term} {f : Formula} {b : Bool} {ids : List ℕ} {column : Option c.Column} (p : Program) → (o : Opened ts t f) → column ≡ column_at p t.index → StandAll ts ids o.parts → ((fs : List Formula) → StandAll ts ids fs → b ≡ last_is (stores_cleanly column) (row fs)) → b ≡ last_is (stores_cleanly (column_at p t.index)) (row o.parts)
stored_by p o same all is = is o.parts all ∙ ap (λ x. last_is (stores_cleanly x) (row o.parts)) same

pub set_kind : {kind : Kind} → kind ≡ k.Set → false ≡ is_heap_constant kind
set_kind is = sym (ap is_heap_constant is)

-- the first argument, or none, as the code reads it
pub some_below : {ts : List Term} {t : Term} {f : Formula} {ids : List ℕ} (p : Program) (r : Option ℕ) → (o : Opened ts t f) → r ≡ slice_get ids 0 → ids ≡ t.args → LooksBelow p t o.parts → IfSome r (IsBefore p ts f)
some_below p None o e same looks = tt
some_below p (Some id) o e same looks = goes_below p o looks (e ∙ ap (λ (xs : List ℕ). slice_get xs 0) same)

pub none_below : {ts : List Term} {t : Term} {f : Formula} {ids : List ℕ} (p : Program) (r : Option ℕ) → (o : Opened ts t f) → r ≡ slice_get ids 0 → ids ≡ t.args → LooksBelow p t o.parts → false ≡ is_heap_constant t.kind → IfNone r (IsOrigin p f)
none_below p None o e same looks kind = stays_here p o looks (e ∙ ap (λ (xs : List ℕ). slice_get xs 0) same) kind
none_below p (Some id) o e same looks kind = tt

pub first_below : {ids args : List ℕ} {id : ℕ} (r : Option ℕ) → r ≡ slice_get ids 0 → ids ≡ args → All (λ a. a < id) args → IfSome r (λ b. b < id)
first_below {ids} {args} {id} None e same below = tt
first_below {ids} {args} {id} (Some b) e same below = by_args args (e ∙ ap (λ (xs : List ℕ). slice_get xs 0) same) below
  where
    by_args : (xs : List ℕ) → Some b ≡ slice_get xs 0 → All (λ a. a < id) xs → b < id
    by_args [] here all = absurd (cc)
    by_args (x ∷ xs) here all = subst (λ (n : ℕ). n < id) (same_first here) (All-head (λ a. a < id) x xs all)
      where
        same_first : Some b ≡ Some x → x ≡ b
        same_first h = cc
