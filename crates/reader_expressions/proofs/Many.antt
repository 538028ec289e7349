-- Repetitions, one item after the other.
use Rattle.std.proofs.Common.{◌≡◌, ◌≢◌, ℕ, zero, suc, ◌+◌, ◌-◌, ◌<◌, ◌≤◌, max, nat_le, Bool, true, false, cond, List, [], ◌∷◌, ◌++◌, length, Result, Ok, Err, refl, ap, sym, ◌∙◌, subst, arith, append_assoc}
use Rattle.std.proofs.lemmas.List.{append-nil}
use Rattle.ebnf.specs.Sets.{has}
use Rattle.ebnf.specs.Derives.{next}
use Rattle.ebnf.specs.Reading.{Fault, Out, Unexpected, on, items}
use Rattle.c_syntax.specs.Lexing.{Lexeme}
use Rattle.c_syntax.specs.Language.{language}
use Rattle.reader_expressions.specs.declared.reading.Parsed.{Parsed}
use Rattle.reader_expressions.specs.declared.reading.ReadFault.{ReadFault}
use Rattle.reader_expressions.specs.declared.reading.ReadFault.TheVariants as f
use Rattle.reader_expressions.specs.Reading.{Gives, lexemes, extended, through}

abbrev rest_of : {A : Type 0} → List Lexeme → Out language A → List Lexeme
rest_of us (Ok p) = p.2
rest_of us (Err e) = us

module _ {B : Type 0} (r : List Lexeme → Out language B) (cs : List ℕ) (takes : (ts : List Lexeme) (b : B) (h : ℕ) (rest : List Lexeme) → r ts ≡ Ok (b, h, rest) → length rest < length ts) where
  -- what the first item is, and then the others
  abbrev next_items : ℕ → List Lexeme → Out language B → Out language (List B)
  next_items n ts out = on language out (λ b i mid. on language (items language n r cs mid) (λ bs j rest. Ok (b ∷ bs, max i j, rest)))

  -- more fuel than tokens is enough
  fuel : (n m : ℕ) (ts : List Lexeme) → length ts < n → length ts < m → items language n r cs ts ≡ items language m r cs ts
  fuel zero m ts a b = absurd (omega (arith, a))
  fuel (suc n) zero ts a b = absurd (omega (arith, b))
  fuel (suc n) (suc m) ts a b = go (λ us c d. fuel n m us c d) (has cs (next language ts)) (r ts) (λ b' h rest e. takes ts b' h rest e)
    where
      go : ((us : List Lexeme) → length us < n → length us < m → items language n r cs us ≡ items language m r cs us) → (x : Bool) (out : Out language B) → ((b : B) (h : ℕ) (rest : List Lexeme) → out ≡ Ok (b, h, rest) → length rest < length ts) → cond x (next_items n ts out) (Ok ([], 0, ts)) ≡ cond x (next_items m ts out) (Ok ([], 0, ts))
      go less true (Ok p) t = let lt = t p.0 p.1 p.2 refl in ap (λ o. on language o (λ bs j rest. Ok (p.0 ∷ bs, max p.1 j, rest))) (less p.2 (omega arith) (omega arith))
      go less true (Err e) t = refl
      go less false out t = refl

  -- all items from here on
  abbrev pub all : List Lexeme → Out language (List B)
  all ts = items language (suc (length ts)) r cs ts

  pub stop : (xs : List B) (h : ℕ) (ts : List Lexeme) → has cs (next language ts) ≡ false → through xs h (all ts) ≡ Ok (xs, h, ts)
  stop xs h ts e = rw e (ap₃ xs h ts)
    where
      ap₃ : (xs : List B) (h : ℕ) (ts : List Lexeme) → ◌≡◌ {A = Out language (List B)} (Ok (xs ++ [], max h 0, ts)) (Ok (xs, h, ts))
      ap₃ xs h ts = let a : max h 0 ≡ h = omega arith in ap (λ ys. Ok (ys, max h 0, ts)) (append-nil xs) ∙ ap (λ k. Ok (xs, k, ts)) a

  -- the first item, and then the others behind it
  step : (xs : List B) (h : ℕ) (ts : List Lexeme) → has cs (next language ts) ≡ true → through xs h (all ts) ≡ on language (extended xs h (r ts)) (λ ys k mid. through ys k (all mid))
  step xs h ts e = rw e (go (r ts) (λ b' k rest q. takes ts b' k rest q))
    where
      inner : (b : B) (i : ℕ) (out : Out language (List B)) → through xs h (on language out (λ bs j rest. Ok (b ∷ bs, max i j, rest))) ≡ through (xs ++ b ∷ []) (max h i) out
      inner b i (Ok p) = let a : max h (max i p.1) ≡ max (max h i) p.1 = omega arith in ap (λ ys. Ok (ys, max h (max i p.1), p.2)) (sym (append_assoc xs (b ∷ []) p.0)) ∙ ap (λ k. Ok ((xs ++ b ∷ []) ++ p.0, k, p.2)) a
      inner b i (Err e) = refl

      go : (out : Out language B) → ((b : B) (k : ℕ) (rest : List Lexeme) → out ≡ Ok (b, k, rest) → length rest < length ts) → through xs h (next_items (length ts) ts out) ≡ on language (extended xs h out) (λ ys k mid. through ys k (all mid))
      go (Ok p) t = let lt = t p.0 p.1 p.2 refl in inner p.0 p.1 (items language (length ts) r cs p.2) ∙ ap (through (xs ++ p.0 ∷ []) (max h p.1)) (fuel (length ts) (suc (length p.2)) p.2 (omega arith) (omega arith))
      go (Err e) t = refl

  pub goes : (xs : List B) (h : ℕ) (ts : List Lexeme) (ys : List B) (k : ℕ) (mid : List Lexeme) → has cs (next language ts) ≡ true → extended xs h (r ts) ≡ Ok (ys, k, mid) → through xs h (all ts) ≡ through ys k (all mid)
  goes xs h ts ys k mid e q = step xs h ts e ∙ ap (λ out. on language out (λ ys k mid. through ys k (all mid))) q

  -- a fault of one item is one of all
  pub fails : {X Y C : Type 0} (v : X → List B) (w : Y → C) (xs : List B) (h : ℕ) (ts : List Lexeme) (e : ReadFault) (out : Out language C) (rest_of_it : List B → ℕ → List Lexeme → Out language C) → has cs (next language ts) ≡ true → Gives {X = X} v (Err e) (extended xs h (r ts)) → on language (through xs h (all ts)) rest_of_it ≡ out → Gives {X = Y} w (Err e) out
  fails v w xs h ts (f.Unexpected rest) out rest_of_it e g same = sym same ∙ ap (λ o. on language o rest_of_it) (step xs h ts e) ∙ ap (λ o. on language (on language o (λ ys k mid. through ys k (all mid))) rest_of_it) g
  fails v w xs h ts (f.TooDeep rest) out rest_of_it e g same = sym same ∙ ap (λ o. on language o rest_of_it) (step xs h ts e) ∙ ap (λ o. on language (on language o (λ ys k mid. through ys k (all mid))) rest_of_it) g
  fails v w xs h ts f.OutOfMemory out rest_of_it e g same = tt

  pub fails_at : {X Y : Type 0} (v : X → List B) (w : Y → List B) (xs : List B) (h : ℕ) (ts : List Lexeme) (e : ReadFault) (out : Out language (List B)) → has cs (next language ts) ≡ true → Gives {X = X} v (Err e) (extended xs h (r ts)) → through xs h (all ts) ≡ out → Gives {X = Y} w (Err e) out
  fails_at v w xs h ts (f.Unexpected rest) out e g same = sym same ∙ step xs h ts e ∙ ap (λ o. on language o (λ ys k mid. through ys k (all mid))) g
  fails_at v w xs h ts (f.TooDeep rest) out e g same = sym same ∙ step xs h ts e ∙ ap (λ o. on language o (λ ys k mid. through ys k (all mid))) g
  fails_at v w xs h ts f.OutOfMemory out e g same = tt

  pub shorter : (xs : List B) (h : ℕ) (ts : List Lexeme) (ys : List B) (k : ℕ) (mid : List Lexeme) → extended xs h (r ts) ≡ Ok (ys, k, mid) → length mid < length ts
  shorter xs h ts ys k mid q = go (r ts) (λ b i rest e. takes ts b i rest e) q
    where
      go : (out : Out language B) → ((b : B) (i : ℕ) (rest : List Lexeme) → out ≡ Ok (b, i, rest) → length rest < length ts) → extended xs h out ≡ Ok (ys, k, mid) → length mid < length ts
      go (Ok p) t e = subst (λ (us : List Lexeme). length us < length ts) (rest_is (xs ++ p.0 ∷ []) ys (max h p.1) k p.2 mid e) (t p.0 p.1 p.2 refl)
        where
          rest_is : (a b : List B) (i j : ℕ) (us vs : List Lexeme) → ◌≡◌ {A = Out language (List B)} (Ok (a, i, us)) (Ok (b, j, vs)) → us ≡ vs
          rest_is a b i j us vs e = ap (λ (o : Out language (List B)). rest_of us o) e
      go (Err x) t e = absurd cc
