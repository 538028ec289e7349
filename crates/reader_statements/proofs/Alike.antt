-- Statements as parts of something else: they are read the same, but for what is made of them.
use Rattle.std.proofs.Common.{◌≡◌, ℕ, suc, max, min, nat_le, Bool, true, false, cond, List, ◌++◌, Ok, Err, refl, ap, ◌∙◌}
use Rattle.ebnf.specs.Rules.{token, row, nothing, form, pick}
use Rattle.ebnf.specs.Sets.{has, first, first_rule, low, low_rule, is_empty}
use Rattle.ebnf.specs.Derives.{next}
use Rattle.ebnf.specs.Reading.{Out, Unexpected, TooDeep, on, take, read, read_rule}
use Rattle.c_syntax.specs.Lexing.{Lexeme}
use Rattle.c_syntax.specs.Language.{language}
use Rattle.c_syntax.specs.Statements.{Stm}
use Rattle.c_syntax.specs.Grammar.{P, R}
use Rattle.reader_expressions.specs.Reading.{part, rule_at}
use Rattle.reader_assignments.proofs.Begun.{mapped}
use Rattle.reader_statements.specs.Rows.{all, block, skip, declaration, named, other, branch, while_loop, do_loop, for_loop, return_, spawn, free, as_block, braced}

-- one function behind another
abbrev pub after : {A B X : Type 0} → (B → A) → (X → B) → X → A
after h f y = h (f y)

-- two parts that are read the same
abbrev pub Same : {A B : Type 0} → (B → A) → P A → P B → Type 0
Same h p q = (room : ℕ) (ts : List Lexeme) → part room p ts ≡ mapped h (part room q ts)

module _ {A B : Type 0} (h : B → A) where
  pub row_same : {X : Type 0} (x : P X) (p : P (X → A)) (q : P (X → B)) → Same (after h) p q → Same h (row x p) (row x q)
  unfolding read
  row_same {X} x p q e room ts = go (part room x ts)
    where
      left : X → ℕ → Out language (X → A) → Out language A
      left b i out = on language out (λ f j rest. Ok (f b, max i j, rest))

      right : X → ℕ → Out language (X → B) → Out language B
      right b i out = on language out (λ f j rest. Ok (f b, max i j, rest))

      inner : (b : X) (i : ℕ) (out : Out language (X → B)) → left b i (mapped (after h) out) ≡ mapped h (right b i out)
      inner b i (Ok r) = refl
      inner b i (Err r) = refl

      go : (out : Out language X) → on language out (λ b i mid. left b i (part room p mid)) ≡ mapped h (on language out (λ b i mid. right b i (part room q mid)))
      go (Ok r) = ap (left r.0 r.1) (e room r.2) ∙ inner r.0 r.1 (part room q r.2)
      go (Err r) = refl

  pub end_same : (v : A) (w : B) → v ≡ h w → Same h (nothing v) (nothing w)
  unfolding read
  end_same v w e room ts = ap (λ x. Ok (x, 0, ts)) e

  pub token_same : (c k : ℕ) (f : Lexeme → B) → Same h (token c k (λ x. h (f x))) (token c k f)
  unfolding read
  token_same c k f room ts = go (take language c ts)
    where
      go : (out : Out language Lexeme) → on language out (λ x i rest. Ok (h (f x), k, rest)) ≡ mapped h (on language out (λ x i rest. Ok (f x, k, rest)))
      go (Ok r) = refl
      go (Err r) = refl

  pub form_same : (p : P A) (q : P B) → Same h p q → (room : ℕ) (ts : List Lexeme) → rule_at room (form p) ts ≡ mapped h (rule_at room (form q) ts)
  unfolding read_rule
  form_same p q e room ts = rw (e room ts) (go (part room q ts))
    where
      go : (out : Out language B) → on language (mapped h out) (λ a i rest. Ok (a, suc i, rest)) ≡ mapped h (on language out (λ a i rest. Ok (a, suc i, rest)))
      go (Ok r) = refl
      go (Err r) = refl

-- two rules that begin the same, and are read the same
pub record SameRule {A B : Type 0} (h : B → A) (p : R A) (q : R B) : Type 0 where
  begins : first_rule language p ≡ first_rule language q
  least : low_rule language p ≡ low_rule language q
  same : (room : ℕ) (ts : List Lexeme) → rule_at room p ts ≡ mapped h (rule_at room q ts)

pub pick_same : {A B : Type 0} (h : B → A) (p p' : R A) (q q' : R B) → SameRule h p q → SameRule h p' q' → SameRule h (pick p p') (pick q q')
unfolding read_rule first_rule low_rule
pick_same {A} {B} h p p' q q' x y = record {
  begins = ap (λ cs. cs ++ first_rule language p') x.begins ∙ ap (λ cs. first_rule language q ++ cs) y.begins;
  least = ap (λ n. min n (low_rule language p')) x.least ∙ ap (λ n. min (low_rule language q) n) y.least;
  same = λ room ts. rw x.begins (rw x.least (rw (x.same room ts) (rw y.begins (rw y.least (rw (y.same room ts) (go ts (has (first_rule language q) (next language ts)) (nat_le (low_rule language q) (suc room)) (has (first_rule language q') (next language ts)) (nat_le (low_rule language q') (suc room)) (rule_at room q ts) (rule_at room q' ts)))))));
}
  where
    go : (ts : List Lexeme) (a b c d : Bool) (u v : Out language B) → cond a (cond b (mapped h u) (Err (TooDeep, ts))) (cond c (cond d (mapped h v) (Err (TooDeep, ts))) (Err (Unexpected, ts))) ≡ mapped h (cond a (cond b u (Err (TooDeep, ts))) (cond c (cond d v (Err (TooDeep, ts))) (Err (Unexpected, ts))))
    go ts true true c d u v = refl
    go ts true false c d u v = refl
    go ts false b true true u v = refl
    go ts false b true false u v = refl
    go ts false b false d u v = refl

-- the same, where the second alternative is read the same at these tokens
pub pick_partly : {A B : Type 0} (h : B → A) (p p' : R A) (q q' : R B) (room : ℕ) (ts : List Lexeme) → SameRule h p q → first_rule language p' ≡ first_rule language q' → low_rule language p' ≡ low_rule language q' → (has (first_rule language q') (next language ts) ≡ true → nat_le (low_rule language q') (suc room) ≡ true → rule_at room p' ts ≡ mapped h (rule_at room q' ts))
    → rule_at room (pick p p') ts ≡ mapped h (rule_at room (pick q q') ts)
unfolding read_rule
pick_partly {A} {B} h p p' q q' room ts x e f more = rw x.begins (rw x.least (rw (x.same room ts) (rw e (rw f (go (has (first_rule language q) (next language ts)) (nat_le (low_rule language q) (suc room)) (has (first_rule language q') (next language ts)) (nat_le (low_rule language q') (suc room)) (rule_at room q ts) refl refl)))))
  where
    go : (a b c d : Bool) (u : Out language B) → has (first_rule language q') (next language ts) ≡ c → nat_le (low_rule language q') (suc room) ≡ d
        → cond a (cond b (mapped h u) (Err (TooDeep, ts))) (cond c (cond d (rule_at room p' ts) (Err (TooDeep, ts))) (Err (Unexpected, ts))) ≡ mapped h (cond a (cond b u (Err (TooDeep, ts))) (cond c (cond d (rule_at room q' ts) (Err (TooDeep, ts))) (Err (Unexpected, ts))))
    go true true c d u i j = refl
    go true false c d u i j = refl
    go false b true true u i j = more i j
    go false b true false u i j = refl
    go false b false d u i j = refl

-- a block as a statement
pub block_mapped : (room : ℕ) (ts : List Lexeme) → rule_at room (block (λ x. x)) ts ≡ mapped as_block (rule_at room (form braced) ts)
block_mapped = form_same as_block _ _ (row_same as_block _ _ _ (row_same (after as_block) _ _ _ (row_same (after (after as_block)) _ _ _ (end_same (after (after (after as_block))) _ _ refl))))

module _ {A : Type 0} (wrap : Stm → A) where
  block_same : SameRule wrap (block wrap) (block (λ x. x))
  unfolding first_rule first low_rule low is_empty
  block_same = record { begins = refl; least = refl; same = form_same wrap _ _ (row_same _ _ _ _ (row_same _ _ _ _ (row_same _ _ _ _ (end_same _ _ _ refl)))) }

  skip_same : SameRule wrap (skip wrap) (skip (λ x. x))
  unfolding first_rule first low_rule low is_empty
  skip_same = record { begins = refl; least = refl; same = λ room. form_same wrap _ _ (token_same wrap _ _ _) room }

  declaration_same : SameRule wrap (declaration wrap) (declaration (λ x. x))
  unfolding first_rule first low_rule low is_empty
  declaration_same = record { begins = refl; least = refl; same = form_same wrap _ _ (row_same _ _ _ _ (row_same _ _ _ _ (row_same _ _ _ _ (row_same _ _ _ _ (end_same _ _ _ refl))))) }

  named_same : SameRule wrap (named wrap) (named (λ x. x))
  unfolding first_rule first low_rule low is_empty
  named_same = record { begins = refl; least = refl; same = form_same wrap _ _ (row_same _ _ _ _ (end_same _ _ _ refl)) }

  other_same : SameRule wrap (other wrap) (other (λ x. x))
  unfolding first_rule first low_rule low is_empty
  other_same = record { begins = refl; least = refl; same = form_same wrap _ _ (row_same _ _ _ _ (row_same _ _ _ _ (end_same _ _ _ refl))) }

  branch_same : SameRule wrap (branch wrap) (branch (λ x. x))
  unfolding first_rule first low_rule low is_empty
  branch_same = record { begins = refl; least = refl; same = form_same wrap _ _ (row_same _ _ _ _ (row_same _ _ _ _ (row_same _ _ _ _ (row_same _ _ _ _ (end_same _ _ _ refl))))) }

  while_same : SameRule wrap (while_loop wrap) (while_loop (λ x. x))
  unfolding first_rule first low_rule low is_empty
  while_same = record { begins = refl; least = refl; same = form_same wrap _ _ (row_same _ _ _ _ (row_same _ _ _ _ (row_same _ _ _ _ (end_same _ _ _ refl)))) }

  do_same : SameRule wrap (do_loop wrap) (do_loop (λ x. x))
  unfolding first_rule first low_rule low is_empty
  do_same = record { begins = refl; least = refl; same = form_same wrap _ _ (row_same _ _ _ _ (row_same _ _ _ _ (row_same _ _ _ _ (row_same _ _ _ _ (row_same _ _ _ _ (end_same _ _ _ refl)))))) }

  for_same : SameRule wrap (for_loop wrap) (for_loop (λ x. x))
  unfolding first_rule first low_rule low is_empty
  for_same = record { begins = refl; least = refl; same = form_same wrap _ _ (row_same _ _ _ _ (row_same _ _ _ _ (row_same _ _ _ _ (row_same _ _ _ _ (row_same _ _ _ _ (row_same _ _ _ _ (row_same _ _ _ _ (row_same _ _ _ _ (row_same _ _ _ _ (end_same _ _ _ refl)))))))))) }

  return_same : SameRule wrap (return_ wrap) (return_ (λ x. x))
  unfolding first_rule first low_rule low is_empty
  return_same = record { begins = refl; least = refl; same = form_same wrap _ _ (row_same _ _ _ _ (row_same _ _ _ _ (row_same _ _ _ _ (end_same _ _ _ refl)))) }

  spawn_same : SameRule wrap (spawn wrap) (spawn (λ x. x))
  unfolding first_rule first low_rule low is_empty
  spawn_same = record { begins = refl; least = refl; same = form_same wrap _ _ (row_same _ _ _ _ (row_same _ _ _ _ (row_same _ _ _ _ (row_same _ _ _ _ (row_same _ _ _ _ (row_same _ _ _ _ (end_same _ _ _ refl))))))) }

  free_same : SameRule wrap (free wrap) (free (λ x. x))
  unfolding first_rule first low_rule low is_empty
  free_same = record { begins = refl; least = refl; same = form_same wrap _ _ (row_same _ _ _ _ (row_same _ _ _ _ (row_same _ _ _ _ (end_same _ _ _ refl)))) }

  pub all_same : SameRule wrap (all wrap) (all (λ x. x))
  all_same = pick_same wrap _ _ _ _ block_same (pick_same wrap _ _ _ _ skip_same (pick_same wrap _ _ _ _ declaration_same (pick_same wrap _ _ _ _ named_same (pick_same wrap _ _ _ _ other_same (pick_same wrap _ _ _ _ branch_same (pick_same wrap _ _ _ _ (pick_same wrap _ _ _ _ while_same (pick_same wrap _ _ _ _ do_same for_same)) (pick_same wrap _ _ _ _ return_same (pick_same wrap _ _ _ _ spawn_same free_same))))))))
