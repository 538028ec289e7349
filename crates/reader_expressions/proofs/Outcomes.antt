-- What the reader of expressions has come to, from what it called.
use Rattle.std.proofs.Common.{◌≡◌, ◌≢◌, ◌⊎◌, inl, inr, ⊎_elim, ℕ, zero, suc, ◌+◌, ◌-◌, ◌<◌, ◌≤◌, max, nat_le, Bool, true, false, cond, List, [], ◌∷◌, ◌++◌, map, Result, Ok, Err, refl, ap, sym, ◌∙◌, subst, arith}
use Rattle.std.specs.Prelude.{◌==◌, if◌then◌else◌}
use Rattle.ebnf.specs.Rules.{pick}
use Rattle.ebnf.specs.Sets.{has, first, first_rule, low, low_rule, is_empty, RuleOf}
use Rattle.ebnf.specs.Derives.{next}
use Rattle.ebnf.specs.Reading.{Out, Unexpected, TooDeep, on, enter, read, read_rule, reads}
use Rattle.ebnf.specs.Tools.{true_not_false, le_true, true_le, eq_true, true_eq}
use Rattle.c_syntax.specs.declared.tree.BinaryOperator.{BinaryOperator}
use Rattle.c_syntax.specs.declared.tree.BinaryOperator.TheVariants as op
use Rattle.c_syntax.specs.declared.tree.UnaryOperator.{UnaryOperator}
use denote.Bor.{Bor}
use Rattle.c_syntax.specs.declared.token.Token.{Token}
use Rattle.c_syntax.specs.Lexing.{Lexeme}
use Rattle.c_syntax.specs.Expressions.{Exp}
use Rattle.c_syntax.specs.Language.{language}
use Rattle.c_syntax.specs.Grammar as g
use Rattle.c_syntax.specs.Grammar.{P, R, rule}
use Rattle.reader_expressions.specs.declared.reading.Parsed.{Parsed}
use Rattle.reader_expressions.specs.declared.reading.ReadFault.{ReadFault}
use Rattle.reader_expressions.specs.declared.reading.ReadFault.TheVariants as f
use Rattle.reader_expressions.specs.Reading.{Gives, lexemes, part, rule_at}
use Rattle.reader_expressions.specs.Levels.{mode_of, tier_of, level, below, class_of, own, stands, number, binary, conditional, membership, link, joined, one_link, linked}
use Rattle.reader_expressions.proofs.Links.{begun_own, level_read, binary_read, membership_read, membership_high}

-- a fault of what is read first is one of the whole
pub first_err : {A B X Y : Type 0} (v : X → A) (w : Y → B) (e : ReadFault) (out : Out language A) (more : A → ℕ → List Lexeme → Out language B) (whole : Out language B) → whole ≡ on language out more → Gives {X = X} v (Err e) out → Gives {X = Y} w (Err e) whole
first_err v w (f.Unexpected rest) out more whole is g = is ∙ ap (λ o. on language o more) g
first_err v w (f.TooDeep rest) out more whole is g = is ∙ ap (λ o. on language o more) g
first_err v w f.OutOfMemory out more whole is g = tt

-- what is read behind is the rest of the whole
pub then_gives : {A B X : Type 0} (w : X → B) (r : Result (Parsed X) ReadFault) (out : Out language A) (a : A) (h : ℕ) (mid : List Lexeme) (more : A → ℕ → List Lexeme → Out language B) (whole : Out language B) → whole ≡ on language out more → out ≡ Ok (a, h, mid) → Gives w r (more a h mid) → Gives w r whole
then_gives w r out a h mid more whole is e g = subst (λ o. Gives w r o) (sym (is ∙ ap (λ o. on language o more) e)) g

pub same_gives : {X A : Type 0} (w : X → A) (r : Result (Parsed X) ReadFault) (out whole : Out language A) → whole ≡ out → Gives w r out → Gives w r whole
same_gives w r out whole e g = subst (λ o. Gives w r o) (sym e) g

pub high_gives : {X A : Type 0} (w : X → A) (e : ReadFault) (tokens : Bor (List Token)) (whole : Out language A) → e ≡ f.TooDeep tokens → whole ≡ Err (TooDeep, lexemes tokens.now) → Gives w (Err e) whole
high_gives {X} w e tokens whole is q = subst (λ x. Gives {X = X} w (Err x) whole) (sym is) q

-- ---- levels

tiers : (t : g.Tier) → (number t == 0) ≡ true → t ≡ g.Prefix
tiers g.Prefix h = refl
tiers g.Product h = absurd (true_not_false _ h refl)
tiers g.Sum h = absurd (true_not_false _ h refl)
tiers g.Order h = absurd (true_not_false _ h refl)
tiers g.Equality h = absurd (true_not_false _ h refl)
tiers g.Conjunction h = absurd (true_not_false _ h refl)
tiers g.Disjunction h = absurd (true_not_false _ h refl)
tiers g.Choice h = absurd (true_not_false _ h refl)
tiers g.Implication h = absurd (true_not_false _ h refl)
tiers g.Equivalence h = absurd (true_not_false _ h refl)

pub is_prefix_rule : (m : g.Mode) (t : g.Tier) (room : ℕ) (ts : List Lexeme) → (number t == 0) ≡ true → rule_at room (rule (g.Level m t)) ts ≡ rule_at room (rule (g.Level m g.Prefix)) ts
is_prefix_rule m t room ts h = ap (λ t. rule_at room (rule (g.Level m t)) ts) (tiers t h)

not_prefix : (t : g.Tier) → (number t == 0) ≡ false → t ≢ g.Prefix
not_prefix t h e = true_not_false (number t == 0) (ap (λ t. number t == 0) e) h

-- the level below is known by an equation
pub level_plus : (m : g.Mode) (t u : g.Tier) (room : ℕ) (ts : List Lexeme) → (number t == 0) ≡ false → u ≡ below t → rule_at room (rule (g.Level m t)) ts ≡ on language (rule_at room (rule (g.Level m u)) ts) (λ l k rest. linked (room + 1) room (link m t) l k rest)
level_plus m t u room ts h e =
    let z : suc room ≡ room + 1 = omega arith in
    level_read m t (not_prefix t h) room ts ∙ ap (λ i. on language (rule_at room (rule (g.Level m (below t))) ts) (λ l k rest. linked i room (link m t) l k rest)) z
    ∙ ap (λ u. on language (rule_at room (rule (g.Level m u)) ts) (λ l k rest. linked (room + 1) room (link m t) l k rest)) (sym e)

-- ---- one link

-- `\in` comes next
pub at_in : (m : g.Mode) (t : g.Tier) (c : ℕ) → has (first language (link m t)) c ≡ true → (c == class_of op.In) ≡ true → (own op.In ≡ t) × (stands m op.In ≡ true)
at_in m t c h e = begun_own m t op.In (ap (has (first language (link m t))) (sym (eq_true c (class_of op.In) e)) ∙ h)

pub not_in : (o : BinaryOperator) (c : ℕ) → c ≡ class_of o → (c == class_of op.In) ≡ false → o ≢ op.In
not_in o c e h k = true_not_false (c == class_of op.In) (true_eq c (class_of op.In) (e ∙ ap class_of k)) h

pub low_link : (m : g.Mode) (t : g.Tier) (c : ℕ) → has (first language (link m t)) c ≡ true → low language (link m t) ≡ 1
unfolding first is_empty low
low_link m g.Prefix c h = absurd (true_not_false _ h refl)
low_link m g.Product c h = refl
low_link m g.Sum c h = refl
low_link g.Code g.Order c h = refl
low_link g.InSpec g.Order c h = refl
low_link m g.Equality c h = refl
low_link m g.Conjunction c h = refl
low_link m g.Disjunction c h = refl
low_link m g.Choice c h = refl
low_link g.Code g.Implication c h = absurd (true_not_false _ h refl)
low_link g.InSpec g.Implication c h = refl
low_link g.Code g.Equivalence c h = absurd (true_not_false _ h refl)
low_link g.InSpec g.Equivalence c h = refl

module _ (m : g.Mode) (t : g.Tier) (room : ℕ) (l : Exp) (k : ℕ) (ts : List Lexeme) (begins : has (first language (link m t)) (next language ts) ≡ true) where
  pub link_high : nat_le (max k 1) room ≡ false → one_link room (link m t) l k ts ≡ Err (TooDeep, ts)
  link_high h = rw (low_link m t _ begins) (rw h refl)

  pub link_low : nat_le (max k 1) room ≡ true → one_link room (link m t) l k ts ≡ joined l k (part room (link m t) ts)
  link_low h = rw (low_link m t _ begins) (rw h refl)

room_one : (k room : ℕ) → nat_le (max k 1) room ≡ true → nat_le 1 room ≡ true
room_one k room h = let a = le_true (max k 1) room h in true_le 1 room (omega arith)

pub link_binary : (m : g.Mode) (t : g.Tier) (o : BinaryOperator) (room : ℕ) (l : Exp) (k : ℕ) (ts : List Lexeme) → has (first language (link m t)) (next language ts) ≡ true → nat_le (max k 1) room ≡ true → next language ts ≡ class_of o → own o ≡ t → stands m o ≡ true → o ≢ op.In → one_link room (link m t) l k ts ≡ joined l k (part room (binary m o) ts)
link_binary m t o room l k ts begins fits e same s n = link_low m t room l k ts begins fits ∙ ap (joined l k) (ap (λ t. part room (link m t) ts) (sym same) ∙ binary_read m o room ts s e (room_one k room fits) n)

pub link_choice : (m : g.Mode) (t : g.Tier) (room : ℕ) (l : Exp) (k : ℕ) (ts : List Lexeme) → has (first language (link m t)) (next language ts) ≡ true → nat_le (max k 1) room ≡ true → t ≡ g.Choice → one_link room (link m t) l k ts ≡ joined l k (part room (conditional m) ts)
link_choice m t room l k ts begins fits e = link_low m t room l k ts begins fits ∙ ap (λ t. joined l k (part room (link m t) ts)) e

spec_of : (m : g.Mode) → stands m op.In ≡ true → m ≡ g.InSpec
spec_of g.Code h = absurd (true_not_false _ h refl)
spec_of g.InSpec h = refl

pub link_in : (m : g.Mode) (t : g.Tier) (room : ℕ) (l : Exp) (k : ℕ) (ts : List Lexeme) → has (first language (link m t)) (next language ts) ≡ true → nat_le (max k 1) room ≡ true → next language ts ≡ class_of op.In → own op.In ≡ t → stands m op.In ≡ true → nat_le 2 room ≡ true → one_link room (link m t) l k ts ≡ joined l k (part room membership ts)
link_in m t room l k ts begins fits e same s two = link_low m t room l k ts begins fits ∙ ap (joined l k) (ap (λ t. part room (link m t) ts) (sym same) ∙ ap (λ m. part room (link m g.Order) ts) (spec_of m s) ∙ membership_read room ts e two)

pub link_in_high : (m : g.Mode) (t : g.Tier) (room : ℕ) (l : Exp) (k : ℕ) (ts : List Lexeme) → has (first language (link m t)) (next language ts) ≡ true → nat_le (max k 1) room ≡ true → next language ts ≡ class_of op.In → own op.In ≡ t → stands m op.In ≡ true → nat_le 2 room ≡ false → one_link room (link m t) l k ts ≡ Err (TooDeep, ts)
link_in_high m t room l k ts begins fits e same s two = link_low m t room l k ts begins fits ∙ ap (joined l k) (ap (λ t. part room (link m t) ts) (sym same) ∙ ap (λ m. part room (link m g.Order) ts) (spec_of m s) ∙ membership_high room ts e two)
