-- What the code compares of a reading is the rows of `map`.
use Rattle.std.proofs.Common.{◌≡◌, ◌↔◌, ◌-◌, ◌++◌, ℕ, ℤ, pos, Bool, IsTrue, List, [], ◌∷◌, Option, Some, slice_get, ap, sym, ◌∙◌, subst}
use Rattle.terms.specs.declared.term.Term.{Term}
use Rattle.terms.specs.declared.term.Literal.{Literal}
use Rattle.terms.specs.declared.sort.Sort.{Sort}
use Rattle.terms.specs.declared.term.Kind.TheVariants as k
use Rattle.terms.specs.Formula.{term}
use Rattle.vcc_rules.specs.declared.equality.Equality.{Equality}
use Rattle.vcc_rules.specs.Equality.{IsEquality, IsNoEquality}
use Rattle.vcc_rules.specs.Rows.{yes}
use Rattle.vcc_rules.proofs.Sides.{same_sides}
use Rattle.rule_maps.specs.declared.reading.Reading.{Reading}
use Rattle.rule_maps.specs.Rows.{IsRead, IsReadOfStore, IsReadBack, IsOtherKey, IsOtherColumn}
use Rattle.rule_maps.specs.Readings.{IsNoReading, IsReading, IsUnchanged, ReadsBack, ReadsElsewhere, ReadsColumn}
use Rattle.rule_maps.specs.Sound.{same_ends}

-- One reading is at hand.

same_term : (terms : List Term) (t u : ℕ) (m n : Term) → t ≡ u → slice_get terms t ≡ Some m → slice_get terms u ≡ Some n → m ≡ n
same_term terms t u m n e g h =
    let k : Some m ≡ Some n = sym g ∙ ap (slice_get terms) e ∙ h in
    cc

record SameReading (r : Reading) (t : ℕ) (C : ℤ) (L : List ℕ) (D : ℤ) (h : ℕ) (K : List ℕ) (v x : ℕ) : Type 0 where
  term_is : r.term ≡ t
  column_is : r.column ≡ C
  keys_are : r.keys.now ≡ L
  into : r.store.column ≡ D
  heap_is : r.store.heap ≡ h
  at : r.store.keys.now ≡ K
  value_is : r.store.value ≡ v
  other_is : r.other ≡ x

same_reading : (sorts : List (Option Sort)) (terms : List Term) (number : ℤ) (r : Reading) (t : ℕ) (C : ℤ) (L : List ℕ) (D : ℤ) (h : ℕ) (K : List ℕ) (v x : ℕ) → IsReading sorts terms number r → number ≡ pos t → IsReadOfStore sorts terms t C L D h K v x → SameReading r t C L D h K v x
same_reading sorts terms number r t C L D h K v x i e m =
    let n = i.reads in
    let name : r.term ≡ t = (let q : pos r.term ≡ pos t = sym i.named ∙ e in cc) in
    let s = same_sides terms r.term t n.read r.other m.read x name n.sides_are m.sides_are in
    let read = same_term terms n.read m.read (term k.Get r.column (n.store ∷ r.keys.now)) (term k.Get C (m.store ∷ L)) s.left n.is_read m.is_read in
    let args : n.store ∷ r.keys.now ≡ m.store ∷ L = ap (λ (n : Term). n.args) read in
    let same_store : n.store ≡ m.store = cc in
    let keys : r.keys.now ≡ L = cc in
    let store = same_term terms n.store m.store (term k.Set r.store.column (r.store.heap ∷ r.store.keys.now ++ r.store.value ∷ [])) (term k.Set D (h ∷ K ++ v ∷ [])) same_store n.is_store m.is_store in
    let stored : r.store.heap ∷ r.store.keys.now ++ r.store.value ∷ [] ≡ h ∷ K ++ v ∷ [] = ap (λ (n : Term). n.args) store in
    let heap : r.store.heap ≡ h = cc in
    let behind : r.store.keys.now ++ r.store.value ∷ [] ≡ K ++ v ∷ [] = cc in
    let ends = same_ends r.store.keys.now K r.store.value v behind in
    record {
      term_is = name;
      column_is = ap (λ (n : Term). n.index) read;
      keys_are = keys;
      into = ap (λ (n : Term). n.index) store;
      heap_is = heap;
      at = ends.front;
      value_is = ends.end;
      other_is = s.right;
    }

-- The rows. What names no reading is a number as the code holds it.

back_given : (sorts : List (Option Sort)) (terms : List Term) (number : ℤ) (r : Reading) (clause : List Literal) → IsReading sorts terms number r → ReadsBack r clause → IsReadBack sorts terms (pos 1 ∷ number ∷ []) clause
back_given sorts terms number r clause i (c, keys, o, g) = record {
  t = r.term;
  C = r.column;
  h = r.store.heap;
  K = r.keys.now;
  v = r.other;
  named = λ j. pos 1 ∷ i.named j ∷ [];
  reads = subst (λ (D : ℤ). IsReadOfStore sorts terms r.term r.column r.keys.now D r.store.heap r.keys.now r.other r.other) (sym c)
      (subst (λ (K : List ℕ). IsReadOfStore sorts terms r.term r.column r.keys.now r.store.column r.store.heap K r.other r.other) (sym keys)
      (subst (λ (v : ℕ). IsReadOfStore sorts terms r.term r.column r.keys.now r.store.column r.store.heap r.store.keys.now v r.other) (sym o) i.reads));
  given = g;
}

second_of : (n : ℕ) (x : ℤ) (t : ℕ) → pos n ∷ x ∷ [] ≡ pos n ∷ pos t ∷ [] → x ≡ pos t
second_of n x t e = cc

back_taken : (sorts : List (Option Sort)) (terms : List Term) (number : ℤ) (r : Reading) (clause : List Literal) → IsReading sorts terms number r → IsReadBack sorts terms (pos 1 ∷ number ∷ []) clause → ReadsBack r clause
back_taken sorts terms number r clause i row =
    let s = same_reading sorts terms number r row.t row.C row.K row.C row.h row.K row.v row.v i (second_of 1 number row.t row.named) row.reads in
    (s.column_is ∙ sym s.into, s.keys_are ∙ sym s.at, s.other_is ∙ sym s.value_is, row.given ∙ (λ j. yes (sym s.term_is j) ∷ []))

pub back_row : (sorts : List (Option Sort)) (terms : List Term) (number : ℤ) (r : Reading) (clause : List Literal) (b : Bool) → IsReading sorts terms number r → IsTrue b ↔ ReadsBack r clause → IsTrue b ↔ IsReadBack sorts terms (pos 1 ∷ number ∷ []) clause
back_row sorts terms number r clause b i f = ((λ h. back_given sorts terms number r clause i (f.0 h)), (λ row. f.1 (back_taken sorts terms number r clause i row)))

pub no_back : (sorts : List (Option Sort)) (terms : List Term) (x number : ℤ) (clause : List Literal) → x ≡ number → IsNoReading sorts terms x → IsReadBack sorts terms (pos 1 ∷ number ∷ []) clause → ⊥
no_back sorts terms x number clause same none row = none row.t row.C row.K row.C row.h row.K row.v row.v (same ∙ second_of 1 number row.t row.named) row.reads

column_given : (sorts : List (Option Sort)) (terms : List Term) (number : ℤ) (r : Reading) (clause : List Literal) → IsReading sorts terms number r → ReadsColumn terms r clause → IsOtherColumn sorts terms (pos 3 ∷ number ∷ []) clause
column_given sorts terms number r clause i (unlike, unchanged, g) = record {
  t = r.term;
  C = r.column;
  D = r.store.column;
  h = r.store.heap;
  K = r.store.keys.now;
  v = r.store.value;
  L = r.keys.now;
  x = r.other;
  named = λ j. pos 3 ∷ i.named j ∷ [];
  reads = i.reads;
  is_read = unchanged.is;
  unlike = unlike;
  given = g;
}

-- the other side, as the row has it
unchanged_by : (terms : List Term) (r : Reading) (t : ℕ) (C : ℤ) (L : List ℕ) (D : ℤ) (h : ℕ) (K : List ℕ) (v x : ℕ) → SameReading r t C L D h K v x → IsRead terms x C h L → IsUnchanged terms r
unchanged_by terms r t C L D h K v x s g = record {
  is = subst (λ (x : ℕ). IsRead terms x r.column r.store.heap r.keys.now) (sym s.other_is)
      (subst (λ (C : ℤ). IsRead terms x C r.store.heap r.keys.now) (sym s.column_is)
      (subst (λ (h : ℕ). IsRead terms x C h r.keys.now) (sym s.heap_is)
      (subst (λ (L : List ℕ). IsRead terms x C h L) (sym s.keys_are) g)));
}

column_taken : (sorts : List (Option Sort)) (terms : List Term) (number : ℤ) (r : Reading) (clause : List Literal) → IsReading sorts terms number r → IsOtherColumn sorts terms (pos 3 ∷ number ∷ []) clause → ReadsColumn terms r clause
column_taken sorts terms number r clause i row =
    let s = same_reading sorts terms number r row.t row.C row.L row.D row.h row.K row.v row.x i (second_of 3 number row.t row.named) row.reads in
    ((λ same. row.unlike (sym s.column_is ∙ same ∙ s.into)), unchanged_by terms r row.t row.C row.L row.D row.h row.K row.v row.x s row.is_read, row.given ∙ (λ j. yes (sym s.term_is j) ∷ []))

pub column_row : (sorts : List (Option Sort)) (terms : List Term) (number : ℤ) (r : Reading) (clause : List Literal) (b : Bool) → IsReading sorts terms number r → IsTrue b ↔ ReadsColumn terms r clause → IsTrue b ↔ IsOtherColumn sorts terms (pos 3 ∷ number ∷ []) clause
column_row sorts terms number r clause b i f = ((λ h. column_given sorts terms number r clause i (f.0 h)), (λ row. f.1 (column_taken sorts terms number r clause i row)))

pub no_column : (sorts : List (Option Sort)) (terms : List Term) (x number : ℤ) (clause : List Literal) → x ≡ number → IsNoReading sorts terms x → IsOtherColumn sorts terms (pos 3 ∷ number ∷ []) clause → ⊥
no_column sorts terms x number clause same none row = none row.t row.C row.L row.D row.h row.K row.v row.x (same ∙ second_of 3 number row.t row.named) row.reads

key_given : (sorts : List (Option Sort)) (terms : List Term) (key number equation : ℤ) (r : Reading) (e : Equality) (clause : List Literal) → IsReading sorts terms number r → IsEquality terms equation e → ReadsElsewhere terms key r e clause → IsOtherKey sorts terms (pos 2 ∷ key ∷ number ∷ equation ∷ []) clause
key_given sorts terms key number equation r e clause i q (c, unchanged, stored, read, g) =
    let one : stored.i ≡ read.i = (let f : pos stored.i ≡ pos read.i = sym stored.named ∙ read.named in cc) in
    record {
      i = stored.i;
      t = r.term;
      u = e.term;
      C = r.column;
      h = r.store.heap;
      K = r.store.keys.now;
      v = r.store.value;
      L = r.keys.now;
      x = r.other;
      a = e.left;
      b = e.right;
      named = λ j. pos 2 ∷ stored.named j ∷ i.named j ∷ q.named j ∷ [];
      reads = subst (λ (D : ℤ). IsReadOfStore sorts terms r.term r.column r.keys.now D r.store.heap r.store.keys.now r.store.value r.other) (sym c) i.reads;
      is_read = unchanged.is;
      from_one = stored.from_one;
      stored_key = stored.at;
      read_key = subst (λ (n : ℕ). slice_get r.keys.now (n - 1) ≡ Some e.right) (sym one) read.at;
      keys_equal = q.sides_are;
      given = g;
    }

record Names (key number equation : ℤ) (i t u : ℕ) : Type 0 where
  key_is : key ≡ pos i
  number_is : number ≡ pos t
  equation_is : equation ≡ pos u

names : (key number equation : ℤ) (i t u : ℕ) → pos 2 ∷ key ∷ number ∷ equation ∷ [] ≡ pos 2 ∷ pos i ∷ pos t ∷ pos u ∷ [] → Names key number equation i t u
names key number equation i t u e = record { key_is = cc; number_is = cc; equation_is = cc }

key_taken : (sorts : List (Option Sort)) (terms : List Term) (key number equation : ℤ) (r : Reading) (e : Equality) (clause : List Literal) → IsReading sorts terms number r → IsEquality terms equation e → IsOtherKey sorts terms (pos 2 ∷ key ∷ number ∷ equation ∷ []) clause → ReadsElsewhere terms key r e clause
key_taken sorts terms key number equation r e clause i q row =
    let n = names key number equation row.i row.t row.u row.named in
    let s = same_reading sorts terms number r row.t row.C row.L row.C row.h row.K row.v row.x i n.number_is row.reads in
    let name : e.term ≡ row.u = (let f : pos e.term ≡ pos row.u = sym q.named ∙ n.equation_is in cc) in
    let d = same_sides terms e.term row.u e.left e.right row.a row.b name q.sides_are row.keys_equal in (
      s.column_is ∙ sym s.into,
      unchanged_by terms r row.t row.C row.L row.C row.h row.K row.v row.x s row.is_read,
      record { i = row.i; named = n.key_is; from_one = row.from_one; at = ap (λ K. slice_get K (row.i - 1)) s.at ∙ row.stored_key ∙ ap Some (sym d.left) },
      record { i = row.i; named = n.key_is; from_one = row.from_one; at = ap (λ L. slice_get L (row.i - 1)) s.keys_are ∙ row.read_key ∙ ap Some (sym d.right) },
      row.given ∙ (λ j. yes (sym name j) ∷ yes (sym s.term_is j) ∷ []),
    )

pub elsewhere_row : (sorts : List (Option Sort)) (terms : List Term) (key number equation : ℤ) (r : Reading) (e : Equality) (clause : List Literal) (b : Bool) → IsReading sorts terms number r → IsEquality terms equation e → IsTrue b ↔ ReadsElsewhere terms key r e clause → IsTrue b ↔ IsOtherKey sorts terms (pos 2 ∷ key ∷ number ∷ equation ∷ []) clause
elsewhere_row sorts terms key number equation r e clause b i q f = ((λ h. key_given sorts terms key number equation r e clause i q (f.0 h)), (λ row. f.1 (key_taken sorts terms key number equation r e clause i q row)))

pub no_elsewhere : (sorts : List (Option Sort)) (terms : List Term) (x key number equation : ℤ) (clause : List Literal) → x ≡ number → IsNoReading sorts terms x → IsOtherKey sorts terms (pos 2 ∷ key ∷ number ∷ equation ∷ []) clause → ⊥
no_elsewhere sorts terms x key number equation clause same none row =
    none row.t row.C row.L row.C row.h row.K row.v row.x (same ∙ (names key number equation row.i row.t row.u row.named).number_is) row.reads

pub no_equality : (sorts : List (Option Sort)) (terms : List Term) (key number equation : ℤ) (clause : List Literal) → IsNoEquality terms equation → IsOtherKey sorts terms (pos 2 ∷ key ∷ number ∷ equation ∷ []) clause → ⊥
no_equality sorts terms key number equation clause none row =
    none row.u row.a row.b (names key number equation row.i row.t row.u row.named).equation_is row.keys_equal
