-- Rows of statements, what they make known, and the numbers of what they declare.
use Rattle.std.specs.Prelude.{ℕ, suc, ◌+◌, ◌≤◌, ◌==◌, nat_lt, Bool, true, false, not, ◌||◌, List, [], ◌∷◌, ◌++◌, length, None, slice_get, bytes_eq, IsTrue}
use Rattle.std.proofs.Common.{◌≡◌, refl, sym, ap, subst, ◌∙◌, arith}
use Rattle.std.proofs.lemmas.Bool.Decides.{nat_tests}
use Rattle.object_types.specs.Sets.{every}
use Rattle.typing_spec.specs.Contexts.{Variable}
use Rattle.method.specs.Typing.{is_named}
use Rattle.typed_program.specs.Trees as t
use Rattle.typed_program.specs.Trees.{ClaimSite, Shape, Stmt, Stmts, Inners}
use Rattle.typed_program.specs.Shapes.{Sorts}
use Rattle.typed_program.specs.Numbers.{Around, place_of}
use Rattle.typed_program.specs.Sites.{Site, Occurrence}
use Rattle.typed_program.specs.Statements.{append, append_inner, one}
use Rattle.typed_program.specs.Tables.{sites_told}
use Rattle.typed_laws.proofs.Basics.{and_both, and_left, and_right, or_second, every_weaker}
use Rattle.typed_laws.proofs.TableLists.{in_front, at_back}
use Rattle.typed_laws.proofs.TableSites.{sites_append}
use Rattle.typed_laws.proofs.ScopeTests.{known, adds, stmt_in, row_in, inner_in, inner_row_in}
use Rattle.typed_laws.proofs.ScopeReads.{Reads}
use Rattle.typed_laws.proofs.ScopeParts.{SitesAt}

-- ---- the numbers of what is declared

-- these variables have the numbers from m on
abbrev pub Counted : List (List ℕ) → ℕ → List Variable → Type 0
Counted names m [] = Unit {0}
Counted names m (v ∷ vs) = (place_of (λ n. bytes_eq n v.name.name) names ≡ m) × Counted names (suc m) vs

pub counted_left : (names : List (List ℕ)) (m : ℕ) (xs ys : List Variable) → Counted names m (xs ++ ys) → Counted names m xs
counted_left names m [] ys h = tt
counted_left names m (x ∷ xs) ys h = (h.0, counted_left names (suc m) xs ys h.1)

pub counted_right : (names : List (List ℕ)) (m : ℕ) (xs ys : List Variable) → Counted names m (xs ++ ys) → Counted names (m + length xs) ys
counted_right names m [] ys h = let e : m ≡ m + 0 = omega arith in subst (λ k. Counted names k ys) e h
counted_right names m (x ∷ xs) ys h = let e : suc m + length xs ≡ m + suc (length xs) = omega arith in subst (λ k. Counted names k ys) e (counted_right names (suc m) xs ys h.1)

-- ---- what is told

pub told_left : (sites : List ClaimSite) (l : List Shape) (s : Sorts) (n : ℕ) (xs ys : List Occurrence) → SitesAt sites l s n (xs ++ ys) → SitesAt sites l s n xs
told_left sites l s n xs ys h j x e = h j x (ap (λ (zs : List Site). slice_get zs j) (sites_append xs ys) ∙ in_front (sites_told xs) (sites_told ys) j x e)

pub told_right : (sites : List ClaimSite) (l : List Shape) (s : Sorts) (n k : ℕ) (xs ys : List Occurrence) → length (sites_told xs) ≡ k → SitesAt sites l s n (xs ++ ys) → SitesAt sites l s (n + k) ys
told_right sites l s n k xs ys many h j x e =
    let at : (n + k) + j ≡ n + (k + j) = omega arith in
    ap (slice_get sites) at ∙ h (k + j) x (ap (λ (zs : List Site). slice_get zs (k + j)) (sites_append xs ys) ∙ (at_back (sites_told xs) (sites_told ys) (k + j) j (omega (arith, many)) ∙ e))

pub told_behind : (sites : List ClaimSite) (l : List Shape) (s : Sorts) (n : ℕ) (xs ys : List Occurrence) → sites_told xs ≡ [] → SitesAt sites l s n (xs ++ ys) → SitesAt sites l s n ys
told_behind sites l s n xs ys none h =
    let e : n + 0 ≡ n = omega arith in
    subst (λ k. SitesAt sites l s k ys) e (told_right sites l s n 0 xs ys (ap (λ (zs : List Site). length zs) none) h)

-- ---- what is known

module _ (sites : List ClaimSite) (parameters : ℕ) where
  abbrev Below : ℕ → List ℕ → Type 0
  Below m is = IsTrue (every (λ j. nat_lt j m) is)

  more_below : (m n : ℕ) → m ≤ n → (is : List ℕ) → Below m is → Below n is
  more_below m n l is h = every_weaker (λ j. nat_lt j m) (λ j. nat_lt j n) (λ j k. grind (arith, nat_tests, l, k)) is h

  not_named : (m : ℕ) (is : List ℕ) → Below m is → is_named is m ≡ false
  not_named m [] h = refl
  not_named m (i ∷ is) h =
      let here : (i == m) ≡ false = grind (arith, nat_tests, and_left (nat_lt i m) (every (λ j. nat_lt j m) is) h) in
      λ k. here k || not_named m is (and_right (nat_lt i m) (every (λ j. nat_lt j m) is) h) k

  -- a number that isn't below is of no variable that is known
  pub unknown : (m : ℕ) (is : List ℕ) → parameters ≤ m → Below m is → IsTrue (not (known sites parameters is m))
  unknown m is l h = let low : nat_lt m parameters ≡ false = grind (arith, nat_tests, l) in (λ k. not (low k || not_named m is h k))

  named_more : (js is : List ℕ) (i : ℕ) → IsTrue (is_named is i) → IsTrue (is_named (js ++ is) i)
  named_more [] is i h = h
  named_more (j ∷ js) is i h = or_second (j == i) (is_named (js ++ is) i) (named_more js is i h)

  known_more : (js is : List ℕ) (i : ℕ) → IsTrue (known sites parameters is i) → IsTrue (known sites parameters (js ++ is) i)
  known_more js is i h = by (nat_lt i parameters) h
    where
      by : (b : Bool) → IsTrue (b || is_named is i) → IsTrue (b || is_named (js ++ is) i)
      by true h = refl
      by false h = named_more js is i h

  -- what is known behind a row
  abbrev pub behind_row : List ℕ → Stmts → List ℕ
  behind_row is t.NoStmt = is
  behind_row is (t.AStmt x xs) = behind_row (adds sites parameters x ++ is) xs

  pub still_known : (is : List ℕ) (xs : Stmts) (i : ℕ) → IsTrue (known sites parameters is i) → IsTrue (known sites parameters (behind_row is xs) i)
  still_known is t.NoStmt i h = h
  still_known is (t.AStmt x xs) i h = still_known (adds sites parameters x ++ is) xs i (known_more (adds sites parameters x) is i h)

  pub behind_append : (is : List ℕ) (xs ys : Stmts) → behind_row is (append xs ys) ≡ behind_row (behind_row is xs) ys
  behind_append is t.NoStmt ys = refl
  behind_append is (t.AStmt x xs) ys = behind_append (adds sites parameters x ++ is) xs ys

  -- ---- rows

  pub row_append : (is : List ℕ) (xs ys : Stmts) → IsTrue (row_in sites parameters is xs) → IsTrue (row_in sites parameters (behind_row is xs) ys) → IsTrue (row_in sites parameters is (append xs ys))
  row_append is t.NoStmt ys h k = k
  row_append is (t.AStmt x xs) ys h k =
      let one = stmt_in sites parameters is x in
      let more = row_in sites parameters (adds sites parameters x ++ is) xs in
      and_both one _ (and_left one more h) (row_append (adds sites parameters x ++ is) xs ys (and_right one more h) k)

  pub inner_append : (is : List ℕ) (xs ys : Inners) → IsTrue (inner_row_in sites parameters is xs) → IsTrue (inner_row_in sites parameters is ys) → IsTrue (inner_row_in sites parameters is (append_inner xs ys))
  inner_append is t.NoInner ys h k = k
  inner_append is (t.AnInner x xs) ys h k =
      let one = inner_in sites parameters is x in
      let more = inner_row_in sites parameters is xs in
      and_both one _ (and_left one more h) (inner_append is xs ys (and_right one more h) k)

  -- The row reads and declares what it may, and what it makes known has numbers below m.
  pub record Fine (is : List ℕ) (m : ℕ) (xs : Stmts) : Type 0 where
    pub fits : IsTrue (row_in sites parameters is xs)
    pub after : IsTrue (every (λ j. nat_lt j m) (behind_row is xs))

  pub fine_more : (is : List ℕ) (m n : ℕ) (xs : Stmts) → m ≤ n → Fine is m xs → Fine is n xs
  fine_more is m n xs l h = record { fits = h.fits; after = more_below m n l (behind_row is xs) h.after }

  pub fine_both : (is : List ℕ) (m n : ℕ) (xs ys : Stmts) → Fine is m xs → Fine (behind_row is xs) n ys → Fine is n (append xs ys)
  fine_both is m n xs ys h k = record { fits = row_append is xs ys h.fits k.fits; after = subst (λ js. IsTrue (every (λ j. nat_lt j n) js)) (sym (behind_append is xs ys)) k.after }

  pub fine_none : (is : List ℕ) (m n : ℕ) → m ≤ n → IsTrue (every (λ j. nat_lt j m) is) → Fine is n t.NoStmt
  fine_none is m n l h = record { fits = refl; after = more_below m n l is h }

  -- a statement that makes nothing known
  pub fine_one : (is : List ℕ) (m n : ℕ) (x : Stmt) → m ≤ n → IsTrue (every (λ j. nat_lt j m) is) → adds sites parameters x ≡ [] → IsTrue (stmt_in sites parameters is x) → Fine is n (one x)
  fine_one is m n x l h e k = record { fits = and_both (stmt_in sites parameters is x) true k refl; after = subst (λ js. IsTrue (every (λ j. nat_lt j n) (js ++ is))) (sym e) (more_below m n l is h) }

  -- a statement that declares the variable m
  pub fine_declared : (is : List ℕ) (m n : ℕ) (x : Stmt) → suc m ≤ n → IsTrue (every (λ j. nat_lt j m) is) → adds sites parameters x ≡ m ∷ [] → IsTrue (stmt_in sites parameters is x) → Fine is n (one x)
  fine_declared is m n x l h e k =
      let here : nat_lt m n ≡ true = grind (arith, nat_tests, l) in
      let less : m ≤ n = omega (arith, l) in
      record { fits = and_both (stmt_in sites parameters is x) true k refl; after = subst (λ js. IsTrue (every (λ j. nat_lt j n) (js ++ is))) (sym e) (and_both (nat_lt m n) (every (λ j. nat_lt j n) is) here (more_below m n less is h)) }

  -- ---- what stands around a row

  pub record Standing (names : List (List ℕ)) (a : Around) (is : List ℕ) (m : ℕ) : Type 0 where
    pub names_are : a.names ≡ names
    pub no_bound : a.bound ≡ 0
    pub no_this : a.context.scope.this ≡ None
    pub reads : Reads sites parameters is a
    pub low : parameters ≤ m
    pub below : IsTrue (every (λ j. nat_lt j m) is)

  -- behind a row the same text knows as much
  pub later : (names : List (List ℕ)) (a : Around) (is : List ℕ) (m n : ℕ) (xs : Stmts) → m ≤ n → Standing names a is m → Fine is n xs → Standing names a (behind_row is xs) n
  later names a is m n xs l h k = record {
    names_are = h.names_are;
    no_bound = h.no_bound;
    no_this = h.no_this;
    reads = λ i v g b. still_known is xs _ (h.reads i v g b);
    low = omega (arith, h.low, l);
    below = k.after;
  }

  pub further : (names : List (List ℕ)) (a : Around) (is : List ℕ) (m n : ℕ) → m ≤ n → Standing names a is m → Standing names a is n
  further names a is m n l h = record { names_are = h.names_are; no_bound = h.no_bound; no_this = h.no_this; reads = h.reads; low = omega (arith, h.low, l); below = more_below m n l is h.below }
