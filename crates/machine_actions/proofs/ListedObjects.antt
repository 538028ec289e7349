-- The objects that a block lists: worked out one after the other, and those among them that are no claims.
use Rattle.std.proofs.Common.{◌≡◌, ℕ, zero, suc, ◌+◌, ◌<◌, ◌≤◌, min, true, List, [], ◌∷◌, ◌++◌, length, get_or, drop, if◌then◌else◌, refl, sym, ap, ◌∙◌, drop-cons, add-one, append-nil, arith}
use Rattle.object_types.specs.declared.references.Ref.{Ref}
use Rattle.object_types.specs.declared.values.Value.{Value}
use Rattle.object_types.specs.Heap.{Heap}
use Rattle.method.specs.declared.program.Program.{Program}
use Rattle.method.specs.declared.program.Listed.{Listed}
use Rattle.method.specs.Expressions.{Gives, Spot, eval, eval_all}
use Rattle.method.specs.Actions.{listed_exprs, listed_objects}
use Rattle.machine_values.specs.declared.stop.Stop.{Stop}
use Rattle.machine_values.specs.Answers.{Stops}
use Rattle.machine_values.proofs.Listing.{Far, all_next, all_stops, all_end}

many_listed : (xs : List Listed) → length (listed_exprs xs) ≡ length xs
many_listed [] = refl
many_listed (x ∷ xs) = ap suc (many_listed xs)

listed_at : (xs : List Listed) (i : ℕ) (d : Listed) → get_or (listed_exprs xs) i d.object ≡ (get_or xs i d).object
listed_at [] i d = refl
listed_at (x ∷ xs) zero d = refl
listed_at (x ∷ xs) (suc i) d = listed_at xs i d

module _ (p : Program) (at_ : Spot) (h : Heap) (l : List Value) (xs : List Listed) (n : ℕ) (vs : List Value) (i : ℕ) (far : Far p at_ h l (listed_exprs xs) n vs i) where
  module _ (x : Listed) (lt : i < length xs) (item : x ≡ get_or xs i x) where
    within : i < length (listed_exprs xs)
    within = let many = many_listed xs in omega (arith, lt, many)

    here : x.object ≡ get_or (listed_exprs xs) i x.object
    here = ap (λ (y : Listed). y.object) item ∙ sym (listed_at xs i x)

    pub listed_next : (v : Value) (more : List Value) → ((m : ℕ) → eval p at_ h l x.object m ≡ Gives v) → more ≡ vs ++ v ∷ [] → Far p at_ h l (listed_exprs xs) n more (i + 1)
    listed_next v more gives is = all_next p at_ h l (listed_exprs xs) n vs i far x.object within here v more gives is

    pub listed_stops : (s : Stop) → ((m : ℕ) → Stops s (eval p at_ h l x.object m)) → Stops s (eval_all p at_ h l (listed_exprs xs) n)
    listed_stops s stops = all_stops p at_ h l (listed_exprs xs) n vs i far x.object within here s stops

  pub listed_end : length xs ≤ i → eval_all p at_ h l (listed_exprs xs) n ≡ Gives vs
  listed_end ge = let many = many_listed xs in all_end p at_ h l (listed_exprs xs) n vs i far (omega (arith, ge, many))

-- the plain objects behind the first n
abbrev pub plain_left : List Listed → List Ref → ℕ → List Ref
plain_left ls os n = listed_objects (drop n ls) (drop n os)

module _ (ls : List Listed) (os : List Ref) (n : ℕ) (x : Listed) (o : Ref) (lx : n < length ls) (lo : n < length os) (ix : x ≡ get_or ls n x) (io : o ≡ get_or os n o) where
  left_is : plain_left ls os n ≡ (if x.is_claim then plain_left ls os (n + 1) else o ∷ plain_left ls os (n + 1))
  left_is =
      (λ j. listed_objects (drop-cons ls n x lx j) (drop-cons os n o lo j))
      ∙ (λ j. listed_objects (sym ix j ∷ drop (sym (add-one n) j) ls) (sym io j ∷ drop (sym (add-one n) j) os))

  pub claim_passed : (got whole : List Ref) → x.is_claim ≡ true → got ++ plain_left ls os n ≡ whole → got ++ plain_left ls os (n + 1) ≡ whole
  claim_passed got whole is before = ap (λ rs. got ++ rs) (sym (left_is ∙ ap (λ b. if b then plain_left ls os (n + 1) else o ∷ plain_left ls os (n + 1)) is)) ∙ before

none_left : (ls : List Listed) (os : List Ref) (n : ℕ) → min (length ls) (length os) ≤ n → plain_left ls os n ≡ []
none_left [] os zero h = refl
none_left [] os (suc n) h = refl
none_left (l ∷ ls) [] zero h = refl
none_left (l ∷ ls) [] (suc n) h = none_given (drop n ls)
  where
    none_given : (xs : List Listed) → listed_objects xs [] ≡ []
    none_given [] = refl
    none_given (x ∷ xs) = refl
none_left (l ∷ ls) (o ∷ os) zero h = absurd (omega arith)
none_left (l ∷ ls) (o ∷ os) (suc n) h = none_left ls os n (omega arith)

pub all_taken : (ls : List Listed) (os : List Ref) (n : ℕ) (got whole : List Ref) → n ≡ min (length ls) (length os) → got ++ plain_left ls os n ≡ whole → got ≡ whole
all_taken ls os n got whole h before = sym (append-nil got) ∙ ap (λ rs. got ++ rs) (sym (none_left ls os n (omega arith))) ∙ before
