-- Quantifiers right of `\in`: which rule is meant by the next token, and what is read behind what stands left.
use Rattle.std.proofs.Common.{◌≡◌, ◌≢◌, ℕ, suc, ◌+◌, ◌-◌, ◌≤◌, max, nat_le, Bool, true, false, cond, List, Ok, Err, refl, ap, sym, ◌∙◌, arith}
use Rattle.ebnf.specs.Rules.{pick, chain}
use Rattle.ebnf.specs.Sets.{has, first, first_rule, low, low_rule, is_empty, RuleOf}
use Rattle.ebnf.specs.Derives.{next}
use Rattle.ebnf.specs.Reading.{Out, TooDeep, on, read, read_rule, reads}
use Rattle.ebnf.specs.Tools.{true_not_false, le_true, true_le}
use Rattle.c_syntax.specs.declared.tree.Quantifier.{Quantifier}
use Rattle.c_syntax.specs.declared.tree.Quantifier.TheVariants as quantifiers
use Rattle.c_syntax.specs.Lexing.{Lexeme}
use Rattle.c_syntax.specs.Expressions.{Exp}
use Rattle.c_syntax.specs.Language.{language}
use Rattle.c_syntax.specs.Grammar as g
use Rattle.c_syntax.specs.Grammar.{P, R}
use Rattle.reader_expressions.specs.Reading.{part, rule_at}
use Rattle.reader_expressions.specs.Levels.{arrow, joined, one_link, linked, membership}
use Rattle.reader_expressions.specs.Forms.{quantifier_class}
use Rattle.reader_expressions.specs.Joints.{following, quantified}
use Rattle.reader_expressions.specs.declared.joints.Joint.TheVariants as j
use Rattle.reader_expressions.proofs.Primaries.{fits_one, fits_suc, pick_none, reads_rule}

-- ---- which rule

pick_left : {A : Type 0} (a b q : RuleOf language A) (room : ℕ) (ts : List Lexeme) → has (first_rule language q) (next language ts) ≡ false → nat_le (low_rule language (pick a b)) (suc room) ≡ true → rule_at room (pick (pick a b) q) ts ≡ rule_at room (pick a b) ts
unfolding read_rule
pick_left a b q room ts h fits = go (has (first_rule language (pick a b)) (next language ts)) refl
  where
    go : (x : Bool) → has (first_rule language (pick a b)) (next language ts) ≡ x → rule_at room (pick (pick a b) q) ts ≡ rule_at room (pick a b) ts
    go true e = rw e (rw fits refl)
    go false e = rw e (rw h (sym (pick_none a b room ts e)))

pub start_primary : (room : ℕ) (ts : List Lexeme) → has (first_rule language g.set_quantifier) (next language ts) ≡ false → rule_at room g.set_start ts ≡ rule_at room g.set_primary ts
unfolding low_rule low
start_primary room ts h = pick_left g.named (pick (g.unnamed g.InSpec) g.spec_word) g.set_quantifier room ts h (fits_one room)

pub element_primary : (room : ℕ) (ts : List Lexeme) → has (first_rule language g.set_quantifier) (next language ts) ≡ false → rule_at room g.element_start ts ≡ rule_at room g.set_primary ts
unfolding low_rule low first_rule first is_empty
element_primary room ts h = pick_left g.named (pick (g.unnamed g.InSpec) g.spec_word) g.quantified_field room ts h (fits_one room)

quantifier_in : (q : Quantifier) (room : ℕ) (ts : List Lexeme) (b : Bool) → nat_le 3 room ≡ b → next language ts ≡ quantifier_class q → rule_at room g.set_quantifier ts ≡ cond b (rule_at room (quantified q) ts) (Err (TooDeep, ts))
unfolding read_rule first_rule first low_rule low is_empty
quantifier_in quantifiers.ForAll room ts true h e = rw e (rw (fits_suc 3 room true h) refl)
quantifier_in quantifiers.ForAll room ts false h e = rw e (rw (fits_suc 3 room false h) refl)
quantifier_in quantifiers.Exists room ts true h e = rw e (rw (fits_suc 3 room true h) refl)
quantifier_in quantifiers.Exists room ts false h e = rw e (rw (fits_suc 3 room false h) refl)

pub quantifier_fits : (q : Quantifier) (room : ℕ) (ts : List Lexeme) → next language ts ≡ quantifier_class q → nat_le 3 room ≡ true → rule_at room g.set_quantifier ts ≡ rule_at room (quantified q) ts
quantifier_fits q room ts e h = quantifier_in q room ts true h e

pub quantifier_high : (q : Quantifier) (room : ℕ) (ts : List Lexeme) → next language ts ≡ quantifier_class q → nat_le 3 room ≡ false → rule_at room g.set_quantifier ts ≡ Err (TooDeep, ts)
quantifier_high q room ts e h = quantifier_in q room ts false h e

start_in : (q : Quantifier) (room : ℕ) (ts : List Lexeme) (b : Bool) → nat_le 3 room ≡ b → next language ts ≡ quantifier_class q → rule_at room g.set_start ts ≡ cond b (rule_at room (quantified q) ts) (Err (TooDeep, ts))
unfolding read_rule first_rule first low_rule low is_empty
start_in quantifiers.ForAll room ts true h e = rw e (rw (fits_suc 3 room true h) refl)
start_in quantifiers.ForAll room ts false h e = rw e (rw (fits_suc 3 room false h) refl)
start_in quantifiers.Exists room ts true h e = rw e (rw (fits_suc 3 room true h) refl)
start_in quantifiers.Exists room ts false h e = rw e (rw (fits_suc 3 room false h) refl)

pub start_quantifier : (q : Quantifier) (room : ℕ) (ts : List Lexeme) → next language ts ≡ quantifier_class q → rule_at room g.set_start ts ≡ rule_at room g.set_quantifier ts
start_quantifier q room ts e = start_in q room ts (nat_le 3 room) refl e ∙ sym (quantifier_in q room ts (nat_le 3 room) refl e)

element_in : (q : Quantifier) (room : ℕ) (ts : List Lexeme) (b : Bool) → nat_le 4 room ≡ b → next language ts ≡ quantifier_class q → rule_at room g.element_start ts ≡ cond b (rule_at room g.quantified_field ts) (Err (TooDeep, ts))
unfolding read_rule first_rule first low_rule low is_empty
element_in quantifiers.ForAll room ts true h e = rw e (rw (fits_suc 4 room true h) refl)
element_in quantifiers.ForAll room ts false h e = rw e (rw (fits_suc 4 room false h) refl)
element_in quantifiers.Exists room ts true h e = rw e (rw (fits_suc 4 room true h) refl)
element_in quantifiers.Exists room ts false h e = rw e (rw (fits_suc 4 room false h) refl)

pub element_fits : (q : Quantifier) (room : ℕ) (ts : List Lexeme) → next language ts ≡ quantifier_class q → nat_le 4 room ≡ true → rule_at room g.element_start ts ≡ rule_at room g.quantified_field ts
element_fits q room ts e h = element_in q room ts true h e

pub element_high : (q : Quantifier) (room : ℕ) (ts : List Lexeme) → next language ts ≡ quantifier_class q → nat_le 4 room ≡ false → rule_at room g.element_start ts ≡ Err (TooDeep, ts)
element_high q room ts e h = element_in q room ts false h e

-- ---- links behind what stands left

chain_read : (s : R Exp) (p : P (Exp → Exp)) (room : ℕ) (ts : List Lexeme) → rule_at room (chain s g.always p g.apply_to) ts ≡ on language (rule_at room s ts) (λ l k rest. linked (room + 1) room p l k rest)
unfolding read_rule
chain_read s p room ts = let z : suc room ≡ room + 1 = omega arith in ap (λ i. on language (rule_at room s ts) (λ l k rest. linked i room p l k rest)) z

pub conjunction_read : (room : ℕ) (ts : List Lexeme) → rule_at room g.set_conjunction ts ≡ on language (rule_at room g.memberships ts) (λ l k rest. linked (room + 1) room (following j.And) l k rest)
conjunction_read room ts = chain_read g.memberships g.and_membership room ts

pub memberships_read : (room : ℕ) (ts : List Lexeme) → rule_at room g.memberships ts ≡ on language (rule_at room g.first_membership ts) (λ l k rest. linked (room + 1) room (following j.In) l k rest)
memberships_read room ts = chain_read g.first_membership g.in_set room ts

pub body_read : (room : ℕ) (ts : List Lexeme) → rule_at room g.set_body ts ≡ on language (rule_at room g.set_conjunction ts) (λ l k rest. linked (room + 1) room (following j.Implies) l k rest)
body_read room ts = chain_read g.set_conjunction g.implies_body room ts

pub element_read : (room : ℕ) (ts : List Lexeme) → room ≢ 0 → reads language room g.Element ts ≡ on language (rule_at (room - 1) g.element_start ts) (λ l k rest. linked (room - 1 + 1) (room - 1) (arrow g.InSpec) l k rest)
element_read room ts h = reads_rule room g.Element ts h ∙ chain_read g.element_start g.spec_arrow (room - 1) ts

-- ---- what has to come behind

-- a nonterminal as it is
whole : (out : Out language Exp) → on language out (λ b i rest. Ok (b, i, rest)) ≡ out
whole (Ok p) = refl
whole (Err e) = refl

module _ (room : ℕ) (p : P (Exp → Exp)) where
  abbrev ended : (Exp → Exp) → ℕ → List Lexeme → Out language (Exp → Exp)
  ended c j us = on language {A = (Exp → Exp) → Exp → Exp} {B = Exp → Exp} (Ok ((λ f x. f x), 0, us)) (λ f k rest. Ok (f c, max j k, rest))

  abbrev followed : Exp → ℕ → List Lexeme → Out language Exp
  followed b i mid = on language {A = Exp → Exp} {B = Exp} (on language (part room p mid) ended) (λ f j rest. Ok (f b, max i j, rest))

  abbrev higher : Exp → ℕ → List Lexeme → Out language Exp
  higher a i rest = Ok (a, suc i, rest)

  then_joined : (out : Out language Exp) → on language (on language (on language out (λ b i rest. Ok (b, i, rest))) followed) higher ≡ on language out (λ l k rest. joined l k (part room p rest))
  then_joined (Ok q) = go (part room p q.2)
    where
      go : (out : Out language (Exp → Exp)) → on language (on language {A = Exp → Exp} {B = Exp} (on language out ended) (λ f j rest. Ok (f q.0, max q.1 j, rest))) higher ≡ joined q.0 q.1 out
      go (Ok w) = let z : max w.1 0 ≡ w.1 = omega arith in ap (λ i. Ok (w.0 q.0, suc (max q.1 i), w.2)) z
      go (Err e) = refl
  then_joined (Err e) = refl

pub membership_read : (room : ℕ) (ts : List Lexeme) → rule_at room g.first_membership ts ≡ on language (reads language room g.Element ts) (λ l k rest. joined l k (part room membership rest))
unfolding read_rule read
membership_read room ts = then_joined room membership (reads language room g.Element ts)

pub field_read : (room : ℕ) (ts : List Lexeme) → room ≢ 0 → rule_at room g.quantified_field ts ≡ on language (rule_at (room - 1) g.set_quantifier ts) (λ l k rest. joined l k (part room g.spec_arrow rest))
unfolding read_rule read
field_read room ts h = then_joined room g.spec_arrow (reads language room g.SetQuantifier ts) ∙ ap (λ o. on language o (λ l k rest. joined l k (part room g.spec_arrow rest))) (reads_rule room g.SetQuantifier ts h)

-- ---- a joint, where there is room for it

module _ (p : P (Exp → Exp)) (room : ℕ) (l : Exp) (k : ℕ) (ts : List Lexeme) where
  pub joint_high : nat_le (max k (low language p)) room ≡ false → one_link room p l k ts ≡ Err (TooDeep, ts)
  joint_high h = rw h refl

  pub joint_low : nat_le (max k (low language p)) room ≡ true → one_link room p l k ts ≡ joined l k (part room p ts)
  joint_low h = rw h refl

pub rooms : (room k : ℕ) {a b m : ℕ} → a ≡ b → m ≡ max k a → nat_le (max k b) room ≡ nat_le m room
rooms room k e f = ap (λ i. nat_le (max k i) room) (sym e) ∙ ap (λ i. nat_le i room) (sym f)
