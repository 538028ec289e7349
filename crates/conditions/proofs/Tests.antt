-- Expressions of the machine: an expression's value whether or not its checks pass, and its tests in order; and that it ends at its first false test, and otherwise with that value.
use Rattle.std.proofs.Common.{◌≡◌, ℕ, suc, ◌+◌, Bool, true, false, not, ◌&&◌, ◌||◌, if◌then◌else◌, List, [], ◌∷◌, ◌++◌, map, length, refl, ap, sym, ◌∙◌, subst, arith}
use Rattle.std.specs.Prelude.{ℤ, pos, ◌-ℤ◌}
use Rattle.object_types.specs.declared.references.Ref.{Ref}
use Rattle.object_types.specs.declared.values.Value.{Value}
use Rattle.object_types.specs.declared.values.Value.TheVariants.{Int, Ref as Refers}
use Rattle.object_types.specs.References.{null}
use Rattle.object_types.specs.Values.{int, referent, truth, says, is_zero_int}
use Rattle.object_types.specs.Heap.{Heap}
use Rattle.int_ranges.specs.declared.ctype.CType.{CType}
use Rattle.int_ranges.specs.Ranges.{in_range}
use Rattle.method.specs.declared.program.CheckKind.{CheckKind}
use Rattle.method.specs.declared.program.CheckKind.TheVariants.{Divide, Range, Read}
use Rattle.method.specs.declared.program.Operator.{Operator}
use Rattle.method.specs.declared.program.Operator.TheVariants as o
use Rattle.method.specs.declared.program.Expr.{Expr}
use Rattle.method.specs.declared.program.Expr.TheVariants as e
use Rattle.method.specs.declared.program.Program.{Program}
use Rattle.method.specs.SpecValue as v
use Rattle.method.specs.Tables.{local, read}
use Rattle.conditions.proofs.Ways.{length_both}
use Rattle.method.specs.Expressions as m
use Rattle.method.specs.Expressions.{Spot as MachineSpot, Outcome, End, Misfit, Gave, Failed, Gives, Fault, after, check, checks, eval, divides}

abbrev pub own_tests : Operator → CType → ℤ → ℤ → List Bool
own_tests op c a b = if divides op then not (is_zero_int b) ∷ in_range c (m.checked_result op a b) ∷ [] else in_range c (m.checked_result op a b) ∷ []

abbrev pub IsInt : Value → Type 0
IsInt a = (z : ℤ) × (a ≡ Int z)

abbrev pub IsRef : Value → Type 0
IsRef a = (r : Ref) × (a ≡ Refers r)

-- two integers, or two references
abbrev pub SameSort : Value → Value → Type 0
SameSort (Int a) (Int b) = Unit {0}
SameSort (Int a) (Refers r) = ⊥
SameSort (Refers r) (Int b) = ⊥
SameSort (Refers r) (Refers q) = Unit {0}

module _ (p : Program) (at_ : MachineSpot) (h : Heap) (l : List Value) where
  abbrev pub plain : Expr → Value
  plain (e.Number z) = Int z
  plain e.Null = Refers null
  plain (e.Variable i) = local l i
  plain (e.Field' q x g) = read p h (referent (plain x)) g
  plain (e.Not' q x) = says (not (truth (plain x)))
  plain (e.Negate' q x c) = Int (pos 0 -ℤ int (plain x))
  plain (e.Arithmetic' op q x r y c) = Int (v.compute op (int (plain x)) (int (plain y)))
  plain (e.Compare' op q x r y) = says (v.compare op (plain x) (plain y))
  plain (e.And' q x r y) = says (truth (plain x) && truth (plain y))
  plain (e.Or' q x r y) = says (truth (plain x) || truth (plain y))
  plain (e.Choose' q x r y t z) = if truth (plain x) then plain y else plain z
  plain (e.Convert' q x c) = plain x

  abbrev pub where_true : Bool → List Bool → List Bool
  where_true b bs = map (λ t. not b || t) bs

  abbrev pub tests : Expr → List Bool
  tests (e.Number z) = []
  tests e.Null = []
  tests (e.Variable i) = []
  tests (e.Field' q x g) = tests x ++ m.readable p at_ h (referent (plain x)) g ∷ []
  tests (e.Not' q x) = tests x
  tests (e.Negate' q x c) = tests x ++ in_range c (pos 0 -ℤ int (plain x)) ∷ []
  tests (e.Arithmetic' op q x r y c) = tests x ++ (tests y ++ own_tests op c (int (plain x)) (int (plain y)))
  tests (e.Compare' op q x r y) = tests x ++ tests y
  tests (e.And' q x r y) = tests x ++ where_true (truth (plain x)) (tests y)
  tests (e.Or' q x r y) = tests x ++ where_true (not (truth (plain x))) (tests y)
  tests (e.Choose' q x r y t z) = tests x ++ (where_true (truth (plain x)) (tests y) ++ where_true (not (truth (plain x))) (tests z))
  tests (e.Convert' q x c) = tests x ++ in_range c (int (plain x)) ∷ []

  -- what the typing of an expression gives: what is read from is a reference, divisors are integers, and the branches of ?: of one sort
  abbrev pub Sorted : Expr → Type 0
  Sorted (e.Number z) = Unit {0}
  Sorted e.Null = Unit {0}
  Sorted (e.Variable i) = Unit {0}
  Sorted (e.Field' q x g) = Sorted x × IsRef (plain x)
  Sorted (e.Not' q x) = Sorted x
  Sorted (e.Negate' q x c) = Sorted x
  Sorted (e.Arithmetic' op q x r y c) = Sorted x × Sorted y × IsInt (plain y)
  Sorted (e.Compare' op q x r y) = Sorted x × Sorted y
  Sorted (e.And' q x r y) = Sorted x × Sorted y
  Sorted (e.Or' q x r y) = Sorted x × Sorted y
  Sorted (e.Choose' q x r y t z) = Sorted x × Sorted y × Sorted z × SameSort (plain y) (plain z)
  Sorted (e.Convert' q x c) = Sorted x

-- an outcome is the first of these tests that is false, the first having number n, and without one it is the value
abbrev pub Ends : {A : Type 0} → List Bool → ℕ → A → Outcome A → Type 0
Ends [] n a r = r.end ≡ Gave a
Ends (true ∷ bs) n a r = Ends bs (suc n) a r
Ends (false ∷ bs) n a r = (kind : CheckKind) × (line : ℕ) × (r.end ≡ Failed n kind line)

-- all tests pass; the first that doesn't has this number, the first of all having number n
abbrev pub AllTrue : List Bool → Type 0
AllTrue [] = Unit {0}
AllTrue (true ∷ bs) = AllTrue bs
AllTrue (false ∷ bs) = ⊥

abbrev pub FirstFalse : ℕ → ℕ → List Bool → Type 0
FirstFalse label n [] = ⊥
FirstFalse label n (true ∷ bs) = FirstFalse label (suc n) bs
FirstFalse label n (false ∷ bs) = n ≡ label

gave_gave : {A : Type 0} (a b : A) → Gave a ≡ Gave b → a ≡ b
gave_gave a b e = cc

failed_number : {A : Type 0} (x : End A) (n k : ℕ) (c d : CheckKind) (i j : ℕ) → x ≡ Failed n c i → x ≡ Failed k d j → n ≡ k
failed_number x n k c d i j e f = cc

gave_not_failed : {A : Type 0} (a : A) (n : ℕ) (c : CheckKind) (i : ℕ) → Gave a ≡ Failed n c i → ⊥
gave_not_failed a n c i e = cc

-- what ended with a value passed each test, and it is that value
pub ends_gave : {A : Type 0} (bs : List Bool) (n : ℕ) (a b : A) (r : Outcome A) → Ends bs n a r → r.end ≡ Gave b → AllTrue bs × (a ≡ b)
ends_gave [] n a b r x e = (tt, gave_gave a b (sym x ∙ e))
ends_gave (true ∷ bs) n a b r x e = ends_gave bs (suc n) a b r x e
ends_gave (false ∷ bs) n a b r x e = absurd (gave_not_failed b n x.0 x.1 (sym e ∙ x.2))

-- what failed has this first false test
pub ends_failed : {A : Type 0} (bs : List Bool) (n label : ℕ) (kind : CheckKind) (line : ℕ) (a : A) (r : Outcome A) → Ends bs n a r → r.end ≡ Failed label kind line → FirstFalse label n bs
ends_failed [] n label kind line a r x e = absurd (gave_not_failed a label kind line (sym x ∙ e))
ends_failed (true ∷ bs) n label kind line a r x e = ends_failed bs (suc n) label kind line a r x e
ends_failed (false ∷ bs) n label kind line a r x e = failed_number r.end n label x.0 kind x.1 line x.2 e

-- where each test passes it is the value
pub ends_all : {A : Type 0} (bs : List Bool) (n : ℕ) (a : A) (r : Outcome A) → Ends bs n a r → AllTrue bs → r.end ≡ Gave a
ends_all [] n a r x b = x
ends_all (true ∷ bs) n a r x b = ends_all bs (suc n) a r x b
ends_all (false ∷ bs) n a r x b = absurd b

pub all_first : (bs cs : List Bool) → AllTrue (bs ++ cs) → AllTrue bs
all_first [] cs h = tt
all_first (true ∷ bs) cs h = all_first bs cs h
all_first (false ∷ bs) cs h = absurd h

pub all_behind : (bs cs : List Bool) → AllTrue (bs ++ cs) → AllTrue cs
all_behind [] cs h = h
all_behind (true ∷ bs) cs h = all_behind bs cs h
all_behind (false ∷ bs) cs h = absurd h

pub after_gave : {A B : Type 0} (r : Outcome A) (f : A → Outcome B) (a : A) → r.end ≡ Gave a → (after r f).end ≡ (f a).end
after_gave {A} {B} r f a same = ap (λ (x : End A). (m.goes_on r.overflow x f).end) same

pub after_failed : {A B : Type 0} (r : Outcome A) (f : A → Outcome B) (n : ℕ) (kind : CheckKind) (line : ℕ) → r.end ≡ Failed n kind line → (after r f).end ≡ Failed n kind line
after_failed {A} {B} r f n kind line same = ap (λ (x : End A). (m.goes_on r.overflow x f).end) same

-- it goes by the end alone
pub same_end : {A : Type 0} (bs : List Bool) (n : ℕ) (a : A) (r s : Outcome A) → r.end ≡ s.end → Ends bs n a s → Ends bs n a r
same_end [] n a r s same x = same ∙ x
same_end (true ∷ bs) n a r s same x = same_end bs (suc n) a r s same x
same_end (false ∷ bs) n a r s same x = (x.0, x.1, same ∙ x.2)

pub at_place : {A : Type 0} (bs : List Bool) (n k : ℕ) (a : A) (r : Outcome A) → n ≡ k → Ends bs n a r → Ends bs k a r
at_place bs n k a r same x = subst (λ (i : ℕ). Ends bs i a r) same x

pub ends_after : {A B : Type 0} (bs cs : List Bool) (n : ℕ) (a : A) (b : B) (r : Outcome A) (f : A → Outcome B) → Ends bs n a r → Ends cs (n + length bs) b (f a) → Ends (bs ++ cs) n b (after r f)
ends_after [] cs n a b r f x y = same_end cs n b (after r f) (f a) (after_gave r f a x) (at_place cs (n + 0) n b (f a) (omega arith) y)
ends_after (true ∷ bs) cs n a b r f x y = ends_after bs cs (suc n) a b r f x (at_place cs (n + suc (length bs)) (suc n + length bs) b (f a) (omega arith) y)
ends_after (false ∷ bs) cs n a b r f x y = (x.0, x.1, after_failed r f n x.0 x.1 x.2)

pub nothing_behind : (bs : List Bool) → bs ++ [] ≡ bs
nothing_behind [] = refl
nothing_behind (b ∷ bs) = ap (λ cs. b ∷ cs) (nothing_behind bs)

-- and then no check more
pub ends_then : {A B : Type 0} (bs : List Bool) (n : ℕ) (a : A) (b : B) (r : Outcome A) (f : A → Outcome B) → Ends bs n a r → (f a).end ≡ Gave b → Ends bs n b (after r f)
ends_then bs n a b r f x y = subst (λ (cs : List Bool). Ends cs n b (after r f)) (nothing_behind bs) (ends_after bs [] n a b r f x y)

pub ends_check : {A : Type 0} (at_ : MachineSpot) (b : Bool) (n : ℕ) (kind : CheckKind) (a : A) → Ends (b ∷ []) n a (check at_ b n kind (Gives a))
ends_check at_ true n kind a = refl
ends_check at_ false n kind a = (kind, at_.line, refl)

ends_two : {A : Type 0} (at_ : MachineSpot) (b c : Bool) (n : ℕ) (first second : CheckKind) (a : A) → Ends (b ∷ c ∷ []) n a (check at_ b n first (check at_ c (suc n) second (Gives a)))
ends_two at_ true c n first second a = ends_check at_ c (suc n) second a
ends_two at_ false c n first second a = (first, at_.line, refl)

-- a check, and what comes behind it
pub ends_more_checks : {A : Type 0} (at_ : MachineSpot) (b : Bool) (bs : List Bool) (n : ℕ) (kind : CheckKind) (a : A) (r : Outcome A) → Ends bs (n + 1) a r → Ends (b ∷ bs) n a (check at_ b n kind r)
ends_more_checks at_ true bs n kind a r x = at_place bs (n + 1) (suc n) a r (omega arith) x
ends_more_checks at_ false bs n kind a r x = (kind, at_.line, refl)

-- tests that are skipped, and tests that aren't
ends_skipped : {A : Type 0} (bs cs : List Bool) (n : ℕ) (a : A) (r : Outcome A) → Ends cs (n + length bs) a r → Ends (map (λ t. not false || t) bs ++ cs) n a r
ends_skipped [] cs n a r x = at_place cs (n + 0) n a r (omega arith) x
ends_skipped (b ∷ bs) cs n a r x = ends_skipped bs cs (suc n) a r (at_place cs (n + suc (length bs)) (suc n + length bs) a r (omega arith) x)

all_skipped : {A : Type 0} (bs : List Bool) (n : ℕ) (a : A) (r : Outcome A) → r.end ≡ Gave a → Ends (map (λ t. not false || t) bs) n a r
all_skipped [] n a r x = x
all_skipped (b ∷ bs) n a r x = all_skipped bs (suc n) a r x

none_skipped : (bs : List Bool) → map (λ t. not true || t) bs ≡ bs
none_skipped [] = refl
none_skipped (b ∷ bs) = ap (λ cs. b ∷ cs) (none_skipped bs)

ends_made : {A : Type 0} (bs : List Bool) (n : ℕ) (a : A) (r : Outcome A) → Ends bs n a r → Ends (map (λ t. not true || t) bs) n a r
ends_made bs n a r x = subst (λ (cs : List Bool). Ends cs n a r) (sym (none_skipped bs)) x

ends_more : {A : Type 0} (bs cs : List Bool) (n : ℕ) (a : A) (r : Outcome A) → Ends bs n a r → Ends (bs ++ map (λ t. not false || t) cs) n a r
ends_more [] cs n a r x = all_skipped cs n a r x
ends_more (true ∷ bs) cs n a r x = ends_more bs cs (suc n) a r x
ends_more (false ∷ bs) cs n a r x = x

and_case : (t : Bool) (k : ℕ) (bs : List Bool) (b : Value) (r : Outcome Value) → Ends bs k b r → Ends (map (λ u. not t || u) bs) k (says (t && truth b)) (if t then after r (λ w. Gives (says (truth w))) else Gives (says false))
and_case true k bs b r x = ends_made bs k (says (truth b)) (after r (λ w. Gives (says (truth w)))) (ends_then bs k b (says (truth b)) r (λ w. Gives (says (truth w))) x refl)
and_case false k bs b r x = all_skipped bs k (says false) (Gives (says false)) refl

or_case : (t : Bool) (k : ℕ) (bs : List Bool) (b : Value) (r : Outcome Value) → Ends bs k b r → Ends (map (λ u. not (not t) || u) bs) k (says (t || truth b)) (if t then Gives (says true) else after r (λ w. Gives (says (truth w))))
or_case true k bs b r x = all_skipped bs k (says true) (Gives (says true)) refl
or_case false k bs b r x = ends_made bs k (says (truth b)) (after r (λ w. Gives (says (truth w)))) (ends_then bs k b (says (truth b)) r (λ w. Gives (says (truth w))) x refl)

choose_case : (t : Bool) (k : ℕ) (bs cs : List Bool) (b c : Value) (r s : Outcome Value) → Ends bs k b r → Ends cs (k + length bs) c s → Ends (map (λ u. not t || u) bs ++ map (λ u. not (not t) || u) cs) k (if t then b else c) (if t then r else s)
choose_case true k bs cs b c r s x y = ends_more (map (λ u. not true || u) bs) cs k b r (ends_made bs k b r x)
choose_case false k bs cs b c r s x y = ends_skipped bs (map (λ u. not true || u) cs) k c s (ends_made cs (k + length bs) c s y)

length_map : {X Y : Type 0} (f : X → Y) (xs : List X) → length (map f xs) ≡ length xs
length_map f [] = refl
length_map f (x ∷ xs) = ap suc (length_map f xs)

own_many : (op : Operator) (c : CType) (a b : ℤ) → length (own_tests op c a b) ≡ m.own_checks op
own_many o.Plus c a b = refl
own_many o.Minus c a b = refl
own_many o.Times c a b = refl
own_many o.Over c a b = refl
own_many o.Modulo c a b = refl

pub ends_next : {A : Type 0} (at_ : MachineSpot) (b c : Bool) (n : ℕ) (first second : CheckKind) (a : A) → Ends (b ∷ c ∷ []) n a (check at_ b n first (check at_ c (n + 1) second (Gives a)))
ends_next at_ true c n first second a = at_place (c ∷ []) (n + 1) (suc n) a (check at_ c (n + 1) second (Gives a)) (omega arith) (ends_check at_ c (n + 1) second a)
ends_next at_ false c n first second a = (first, at_.line, refl)

ends_operator : (at_ : MachineSpot) (op : Operator) (c : CType) (a b : ℤ) (n : ℕ) → Ends (own_tests op c a b) n (Int (v.compute op a b)) (m.arithmetic at_ op c a b n)
ends_operator at_ o.Plus c a b n = ends_check at_ (in_range c (v.compute o.Plus a b)) n Range (Int (v.compute o.Plus a b))
ends_operator at_ o.Minus c a b n = ends_check at_ (in_range c (v.compute o.Minus a b)) n Range (Int (v.compute o.Minus a b))
ends_operator at_ o.Times c a b n = ends_check at_ (in_range c (v.compute o.Times a b)) n Range (Int (v.compute o.Times a b))
ends_operator at_ o.Over c a b n = ends_next at_ (not (is_zero_int b)) (in_range c (v.quotient a b)) n Divide Range (Int (v.compute o.Over a b))
ends_operator at_ o.Modulo c a b n = ends_next at_ (not (is_zero_int b)) (in_range c (v.quotient a b)) n Divide Range (Int (v.compute o.Modulo a b))

module _ (p : Program) (at_ : MachineSpot) (h : Heap) (l : List Value) where
  abbrev B : Expr → List Bool
  B = tests p at_ h l

  abbrev V : Expr → Value
  V = plain p at_ h l

  skipped_many : (t : Bool) (x : Expr) (n : ℕ) → length (B x) ≡ n → length (map (λ u. not t || u) (B x)) ≡ n
  skipped_many t x n same = length_map (λ u. not t || u) (B x) ∙ same

  -- as many tests as checks
  pub tests_many : (x : Expr) → length (B x) ≡ checks x
  tests_many (e.Number z) = refl
  tests_many e.Null = refl
  tests_many (e.Variable i) = refl
  tests_many (e.Field' q x g) = length_both (B x) (m.readable p at_ h (referent (V x)) g ∷ []) ∙ ap (λ k. k + 1) (tests_many x)
  tests_many (e.Not' q x) = tests_many x
  tests_many (e.Negate' q x c) = length_both (B x) (in_range c (pos 0 -ℤ int (V x)) ∷ []) ∙ ap (λ k. k + 1) (tests_many x)
  tests_many (e.Arithmetic' op q x r y c) =
      let own = own_tests op c (int (V x)) (int (V y)) in
      let two : length (B y ++ own) ≡ checks y + m.own_checks op = length_both (B y) own ∙ ap (λ k. k + length own) (tests_many y) ∙ ap (λ k. checks y + k) (own_many op c (int (V x)) (int (V y))) in
      length_both (B x) (B y ++ own) ∙ ap (λ k. k + length (B y ++ own)) (tests_many x) ∙ ap (λ k. checks x + k) two ∙ omega arith
  tests_many (e.Compare' op q x r y) = length_both (B x) (B y) ∙ ap (λ k. k + length (B y)) (tests_many x) ∙ ap (λ k. checks x + k) (tests_many y)
  tests_many (e.And' q x r y) =
      length_both (B x) (map (λ u. not (truth (V x)) || u) (B y)) ∙ ap (λ k. k + length (map (λ u. not (truth (V x)) || u) (B y))) (tests_many x) ∙ ap (λ k. checks x + k) (skipped_many (truth (V x)) y (checks y) (tests_many y))
  tests_many (e.Or' q x r y) =
      length_both (B x) (map (λ u. not (not (truth (V x))) || u) (B y)) ∙ ap (λ k. k + length (map (λ u. not (not (truth (V x))) || u) (B y))) (tests_many x) ∙ ap (λ k. checks x + k) (skipped_many (not (truth (V x))) y (checks y) (tests_many y))
  tests_many (e.Choose' q x r y t z) =
      let ys = map (λ u. not (truth (V x)) || u) (B y) in
      let zs = map (λ u. not (not (truth (V x))) || u) (B z) in
      let two : length (ys ++ zs) ≡ checks y + checks z = length_both ys zs ∙ ap (λ k. k + length zs) (skipped_many (truth (V x)) y (checks y) (tests_many y)) ∙ ap (λ k. checks y + k) (skipped_many (not (truth (V x))) z (checks z) (tests_many z)) in
      length_both (B x) (ys ++ zs) ∙ ap (λ k. k + length (ys ++ zs)) (tests_many x) ∙ ap (λ k. checks x + k) two ∙ omega arith
  tests_many (e.Convert' q x c) = length_both (B x) (in_range c (int (V x)) ∷ []) ∙ ap (λ k. k + 1) (tests_many x)

  behind : (x : Expr) (n : ℕ) → n + checks x ≡ n + length (B x)
  behind x n = ap (λ k. n + k) (sym (tests_many x))

  -- an expression ends at its first test that is false, and otherwise with its value
  pub ends_eval : (x : Expr) (n : ℕ) → Ends (B x) n (V x) (eval p at_ h l x n)
  ends_eval (e.Number z) n = refl
  ends_eval e.Null n = refl
  ends_eval (e.Variable i) n = refl
  ends_eval (e.Field' q x g) n =
      ends_after (B x) (m.readable p at_ h (referent (V x)) g ∷ []) n (V x) (read p h (referent (V x)) g) (eval p at_ h l x n) (λ a. check at_ (m.readable p at_ h (referent a) g) (n + checks x) Read (Gives (read p h (referent a) g))) (ends_eval x n)
      (at_place (m.readable p at_ h (referent (V x)) g ∷ []) (n + checks x) (n + length (B x)) (read p h (referent (V x)) g) (check at_ (m.readable p at_ h (referent (V x)) g) (n + checks x) Read (Gives (read p h (referent (V x)) g))) (behind x n) (ends_check at_ (m.readable p at_ h (referent (V x)) g) (n + checks x) Read (read p h (referent (V x)) g)))
  ends_eval (e.Not' q x) n = ends_then (B x) n (V x) (says (not (truth (V x)))) (eval p at_ h l x n) (λ a. Gives (says (not (truth a)))) (ends_eval x n) refl
  ends_eval (e.Negate' q x c) n =
      ends_after (B x) (in_range c (pos 0 -ℤ int (V x)) ∷ []) n (V x) (Int (pos 0 -ℤ int (V x))) (eval p at_ h l x n) (λ a. check at_ (in_range c (pos 0 -ℤ int a)) (n + checks x) Range (Gives (Int (pos 0 -ℤ int a)))) (ends_eval x n)
      (at_place (in_range c (pos 0 -ℤ int (V x)) ∷ []) (n + checks x) (n + length (B x)) (Int (pos 0 -ℤ int (V x))) (check at_ (in_range c (pos 0 -ℤ int (V x))) (n + checks x) Range (Gives (Int (pos 0 -ℤ int (V x))))) (behind x n) (ends_check at_ (in_range c (pos 0 -ℤ int (V x))) (n + checks x) Range (Int (pos 0 -ℤ int (V x)))))
  ends_eval (e.Arithmetic' op q x r y c) n =
      let own = own_tests op c (int (V x)) (int (V y)) in
      let f = λ (a b : Value). m.arithmetic at_ op c (int a) (int b) (n + checks x + checks y) in
      ends_after (B x) (B y ++ own) n (V x) (Int (v.compute op (int (V x)) (int (V y)))) (eval p at_ h l x n) (λ a. after (eval p at_ h l y (n + checks x)) (λ b. f a b)) (ends_eval x n)
      (at_place (B y ++ own) (n + checks x) (n + length (B x)) (Int (v.compute op (int (V x)) (int (V y)))) (after (eval p at_ h l y (n + checks x)) (λ b. f (V x) b)) (behind x n)
      (ends_after (B y) own (n + checks x) (V y) (Int (v.compute op (int (V x)) (int (V y)))) (eval p at_ h l y (n + checks x)) (λ b. f (V x) b) (ends_eval y (n + checks x))
      (at_place own (n + checks x + checks y) (n + checks x + length (B y)) (Int (v.compute op (int (V x)) (int (V y)))) (f (V x) (V y)) (behind y (n + checks x)) (ends_operator at_ op c (int (V x)) (int (V y)) (n + checks x + checks y)))))
  ends_eval (e.Compare' op q x r y) n =
      ends_after (B x) (B y) n (V x) (says (v.compare op (V x) (V y))) (eval p at_ h l x n) (λ a. after (eval p at_ h l y (n + checks x)) (λ b. Gives (says (v.compare op a b)))) (ends_eval x n)
      (at_place (B y) (n + checks x) (n + length (B x)) (says (v.compare op (V x) (V y))) (after (eval p at_ h l y (n + checks x)) (λ b. Gives (says (v.compare op (V x) b)))) (behind x n)
      (ends_then (B y) (n + checks x) (V y) (says (v.compare op (V x) (V y))) (eval p at_ h l y (n + checks x)) (λ b. Gives (says (v.compare op (V x) b))) (ends_eval y (n + checks x)) refl))
  ends_eval (e.And' q x r y) n =
      ends_after (B x) (map (λ u. not (truth (V x)) || u) (B y)) n (V x) (says (truth (V x) && truth (V y))) (eval p at_ h l x n) (λ a. if truth a then after (eval p at_ h l y (n + checks x)) (λ w. Gives (says (truth w))) else Gives (says false)) (ends_eval x n)
      (at_place (map (λ u. not (truth (V x)) || u) (B y)) (n + checks x) (n + length (B x)) (says (truth (V x) && truth (V y))) (if truth (V x) then after (eval p at_ h l y (n + checks x)) (λ w. Gives (says (truth w))) else Gives (says false)) (behind x n)
      (and_case (truth (V x)) (n + checks x) (B y) (V y) (eval p at_ h l y (n + checks x)) (ends_eval y (n + checks x))))
  ends_eval (e.Or' q x r y) n =
      ends_after (B x) (map (λ u. not (not (truth (V x))) || u) (B y)) n (V x) (says (truth (V x) || truth (V y))) (eval p at_ h l x n) (λ a. if truth a then Gives (says true) else after (eval p at_ h l y (n + checks x)) (λ w. Gives (says (truth w)))) (ends_eval x n)
      (at_place (map (λ u. not (not (truth (V x))) || u) (B y)) (n + checks x) (n + length (B x)) (says (truth (V x) || truth (V y))) (if truth (V x) then Gives (says true) else after (eval p at_ h l y (n + checks x)) (λ w. Gives (says (truth w)))) (behind x n)
      (or_case (truth (V x)) (n + checks x) (B y) (V y) (eval p at_ h l y (n + checks x)) (ends_eval y (n + checks x))))
  ends_eval (e.Choose' q x r y t z) n =
      let ys = map (λ u. not (truth (V x)) || u) (B y) in
      let zs = map (λ u. not (not (truth (V x))) || u) (B z) in
      ends_after (B x) (ys ++ zs) n (V x) (if truth (V x) then V y else V z) (eval p at_ h l x n) (λ a. if truth a then eval p at_ h l y (n + checks x) else eval p at_ h l z (n + checks x + checks y)) (ends_eval x n)
      (at_place (ys ++ zs) (n + checks x) (n + length (B x)) (if truth (V x) then V y else V z) (if truth (V x) then eval p at_ h l y (n + checks x) else eval p at_ h l z (n + checks x + checks y)) (behind x n)
      (choose_case (truth (V x)) (n + checks x) (B y) (B z) (V y) (V z) (eval p at_ h l y (n + checks x)) (eval p at_ h l z (n + checks x + checks y)) (ends_eval y (n + checks x))
      (at_place (B z) (n + checks x + checks y) (n + checks x + length (B y)) (V z) (eval p at_ h l z (n + checks x + checks y)) (behind y (n + checks x)) (ends_eval z (n + checks x + checks y)))))
  ends_eval (e.Convert' q x c) n =
      ends_after (B x) (in_range c (int (V x)) ∷ []) n (V x) (V x) (eval p at_ h l x n) (λ a. m.converted at_ c a (n + checks x)) (ends_eval x n)
      (at_place (in_range c (int (V x)) ∷ []) (n + checks x) (n + length (B x)) (V x) (m.converted at_ c (V x) (n + checks x)) (behind x n) (ends_check at_ (in_range c (int (V x))) (n + checks x) Range (V x)))
