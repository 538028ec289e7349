-- Clauses of a contract and items of its writes lists, one after the other.
use Rattle.std.proofs.Common.{◌≡◌, ℕ, ◌+◌, ◌<◌, ◌≤◌, true, false, if◌then◌else◌, List, [], ◌∷◌, ◌++◌, length, drop, get_or, map, refl, sym, ap, ◌∙◌, arith}
use Rattle.std.proofs.lemmas.List.{map-append}
use Rattle.c_syntax.specs.declared.token.Span.{Span}
use Rattle.c_syntax.specs.Items as i
use Rattle.c_syntax.specs.Items.{Clause, Written}
use Rattle.elab_shapes.proofs.Rows.{drop_at, drop_all}
use Rattle.typed_program.specs.Annotations.{formulas, spec}
use Rattle.typed_program.specs.Numbers.{Around}
use Rattle.typed_program.specs.Tables as tables
use Rattle.typed_program.specs.Tables.{item_of, clause_formulas, mutable_item, mutable_items, each_clause}
use Rattle.typed_program.specs.Trees as t
use Rattle.elab_clauses.specs.Typing.{is_whole}

-- ---- how many formulas

module _ {X Y : Type 0} (see : X → Y) (total : List Y → ℕ) (size : Y → ℕ) (law : (y : Y) (ys : List Y) → total (y ∷ ys) ≡ size y + total ys) where
  -- one more is counted
  pub counted : (xs : List X) (i : ℕ) (x : X) → i < length xs → x ≡ get_or xs i x → (n m k : ℕ) → m ≡ n + size (see x) → n + total (map see (drop i xs)) ≡ k → m + total (map see (drop (i + 1) xs)) ≡ k
  counted xs i x lt is n m k e f =
      let g = ap (λ zs. total (map see zs)) (drop_at xs i x lt is) in
      let h = law (see x) (map see (drop (i + 1) xs)) in
      omega (arith, e, f, g, h)

-- all are counted
pub counted_all : {X Y : Type 0} (see : X → Y) (total : List Y → ℕ) → total [] ≡ 0 → (xs : List X) (i : ℕ) → length xs ≤ i → (n k : ℕ) → n + total (map see (drop i xs)) ≡ k → n ≡ k
counted_all see total empty xs i h n k e = let g = ap (λ zs. total (map see zs)) (drop_all xs i h) in omega (arith, e, g, empty)

-- ---- what has to be mutable

mutable_by : (a : Around) (n : ℕ) (w : Written) → mutable_item a n w ≡ (if is_whole w then t.SMutable (spec a n (item_of w)) ∷ [] else [])
mutable_by a n (i.Thing x) = refl
mutable_by a n (i.SpanOf p x) = refl
mutable_by a n (i.ExtentOf p x) = refl

module _ (f : t.Clause → t.Clause) (p : Span) (a : Around) (n : ℕ) (w : Written) where
  -- a whole object
  pub whole_item : is_whole w ≡ true → f (tables.clause p (t.SMutable (spec a n (item_of w)))) ∷ [] ≡ map f (map (tables.clause p) (mutable_item a n w))
  whole_item e = ap (λ xs. map f (map (tables.clause p) xs)) (sym (mutable_by a n w ∙ ap (λ b. if b then t.SMutable (spec a n (item_of w)) ∷ [] else []) e))

  -- one that has not to be
  pub bare_item : is_whole w ≡ false → map f (map (tables.clause p) (mutable_item a n w)) ≡ []
  bare_item e = ap (λ xs. map f (map (tables.clause p) xs)) (mutable_by a n w ∙ ap (λ b. if b then t.SMutable (spec a n (item_of w)) ∷ [] else []) e)

pub mutable_law : (f : t.Clause → t.Clause) (p : Span) (a : Around) (n : ℕ) (w : Written) (ws : List Written)
    → map f (map (tables.clause p) (mutable_items a n (w ∷ ws))) ≡ map f (map (tables.clause p) (mutable_item a n w)) ++ map f (map (tables.clause p) (mutable_items a (n + formulas (item_of w)) ws))
mutable_law f p a n w ws =
    ap (map f) (map-append (tables.clause p) (mutable_item a n w) (mutable_items a (n + formulas (item_of w)) ws))
    ∙ map-append f (map (tables.clause p) (mutable_item a n w)) (map (tables.clause p) (mutable_items a (n + formulas (item_of w)) ws))

-- ---- clauses

pub clause_law : {X Y : Type 0} (f : X → Y) (made : ℕ → Clause → List X) (n : ℕ) (x : Clause) (xs : List Clause) → map f (each_clause made n (x ∷ xs)) ≡ map f (made n x) ++ map f (each_clause made (n + clause_formulas x) xs)
clause_law f made n x xs = map-append f (made n x) (each_clause made (n + clause_formulas x) xs)
