-- Levels of expressions: a level is the one below with links behind.
use Rattle.std.proofs.Common.{◌≡◌, ◌≢◌, ◌⊎◌, ℕ, zero, suc, ◌+◌, ◌<◌, ◌≤◌, max, nat_le, Bool, true, false, cond, List, [], ◌∷◌, Result, Ok, Err, inl, inr, ⊎_elim, map, refl, ap, sym, ◌∙◌, subst, arith}
use Rattle.std.specs.Prelude.{◌==◌, ◌&&◌, ◌||◌, not, if◌then◌else◌, slice_index_or}
use Rattle.std.specs.List.{list_all}
use Rattle.ebnf.specs.Tools.{true_not_false, and_left, and_right, or_cases, eq_true, true_eq}
use Rattle.ebnf.specs.Sets.{has, first, low, is_empty}
use Rattle.ebnf.specs.Derives.{next}
use Rattle.ebnf.specs.Reading.{Out, TooDeep, on, read, read_rule, reads, links}
use Rattle.c_syntax.specs.declared.tree.BinaryOperator.{BinaryOperator}
use Rattle.c_syntax.specs.declared.tree.BinaryOperator.TheVariants as op
use Rattle.c_syntax.specs.declared.token.Sign.TheVariants as s
use Rattle.c_syntax.specs.Classes.{sign}
use Rattle.c_syntax.specs.Lexing.{Lexeme}
use Rattle.c_syntax.specs.Expressions.{Exp}
use Rattle.c_syntax.specs.Language.{language}
use Rattle.c_syntax.specs.Grammar as g
use Rattle.c_syntax.specs.Grammar.{rule}
use Rattle.reader_expressions.specs.Reading.{part, rule_at}
use Rattle.reader_expressions.specs.Levels.{below, class_of, own, stands, number, binary, membership, link, linked}

-- nothing is read behind
done : (out : Out language Exp) → out ≡ on language out (λ l k rest. Ok (l, k, rest))
done (Ok p) = refl
done (Err e) = refl

pub level_read : (m : g.Mode) (t : g.Tier) → t ≢ g.Prefix → (room : ℕ) (ts : List Lexeme) → rule_at room (rule (g.Level m t)) ts ≡ on language (rule_at room (rule (g.Level m (below t))) ts) (λ l k rest. linked (suc room) room (link m t) l k rest)
unfolding read_rule links first
level_read m g.Prefix h room ts = absurd (h refl)
level_read m g.Product h room ts = refl
level_read m g.Sum h room ts = refl
level_read m g.Order h room ts = refl
level_read m g.Equality h room ts = refl
level_read m g.Conjunction h room ts = refl
level_read m g.Disjunction h room ts = refl
level_read m g.Choice h room ts = refl
level_read g.Code g.Implication h room ts = done _
level_read g.InSpec g.Implication h room ts = refl
level_read g.Code g.Equivalence h room ts = done _
level_read g.InSpec g.Equivalence h room ts = refl

-- an operator's token tells which link it is
pub binary_read : (m : g.Mode) (o : BinaryOperator) (room : ℕ) (ts : List Lexeme) → stands m o ≡ true → next language ts ≡ class_of o → nat_le 1 room ≡ true → o ≢ op.In → part room (link m (own o)) ts ≡ part room (binary m o) ts
unfolding read first low is_empty
binary_read m op.Times room ts a e fits b = rw e (rw fits refl)
binary_read m op.Over room ts a e fits b = rw e (rw fits refl)
binary_read m op.Modulo room ts a e fits b = rw e (rw fits refl)
binary_read m op.Plus room ts a e fits b = rw e (rw fits refl)
binary_read m op.Minus room ts a e fits b = rw e (rw fits refl)
binary_read g.Code op.Less room ts a e fits b = rw e (rw fits refl)
binary_read g.Code op.LessEqual room ts a e fits b = rw e (rw fits refl)
binary_read g.Code op.Greater room ts a e fits b = rw e (rw fits refl)
binary_read g.Code op.GreaterEqual room ts a e fits b = rw e (rw fits refl)
binary_read g.InSpec op.Less room ts a e fits b = rw e (rw fits refl)
binary_read g.InSpec op.LessEqual room ts a e fits b = rw e (rw fits refl)
binary_read g.InSpec op.Greater room ts a e fits b = rw e (rw fits refl)
binary_read g.InSpec op.GreaterEqual room ts a e fits b = rw e (rw fits refl)
binary_read m op.In room ts a e fits b = absurd (b refl)
binary_read m op.Equal room ts a e fits b = rw e (rw fits refl)
binary_read m op.NotEqual room ts a e fits b = rw e (rw fits refl)
binary_read m op.And room ts a e fits b = refl
binary_read m op.Or room ts a e fits b = refl
binary_read g.Code op.Implies room ts a e fits b = absurd (true_not_false _ a refl)
binary_read g.InSpec op.Implies room ts a e fits b = refl
binary_read g.Code op.Equivalent room ts a e fits b = absurd (true_not_false _ a refl)
binary_read g.InSpec op.Equivalent room ts a e fits b = refl

pub membership_read : (room : ℕ) (ts : List Lexeme) → next language ts ≡ class_of op.In → nat_le 2 room ≡ true → part room (link g.InSpec g.Order) ts ≡ part room membership ts
unfolding read first low is_empty
membership_read room ts e fits = rw e (rw fits refl)

-- where there is no room behind `\in`
pub membership_high : (room : ℕ) (ts : List Lexeme) → next language ts ≡ class_of op.In → nat_le 2 room ≡ false → part room (link g.InSpec g.Order) ts ≡ Err (TooDeep, ts)
unfolding read first low is_empty
membership_high room ts e fits = rw e (rw fits refl)

-- ---- which tokens begin a link

abbrev operators : List BinaryOperator
operators =
    op.Times ∷ op.Over ∷ op.Modulo ∷ op.Plus ∷ op.Minus ∷ op.Less ∷ op.LessEqual ∷ op.Greater ∷ op.GreaterEqual ∷ op.In ∷ op.Equal ∷ op.NotEqual ∷ op.And ∷ op.Or ∷ op.Implies ∷ op.Equivalent ∷ []

all_operators : (f : BinaryOperator → Bool) → list_all f operators ≡ true → (o : BinaryOperator) → f o ≡ true
all_operators f h o = go o
  where
    at : (i : ℕ) (os : List BinaryOperator) → list_all f os ≡ true → f op.Times ≡ true → f (slice_index_or os i op.Times) ≡ true
    at i [] h k = k
    at zero (o ∷ os) h k = and_left (f o) _ h
    at (suc i) (o ∷ os) h k = at i os (and_right (f o) _ h) k

    first' : f op.Times ≡ true
    first' = and_left (f op.Times) _ h

    nth : (i : ℕ) → f (slice_index_or operators i op.Times) ≡ true
    nth i = at i operators h first'

    go : (o : BinaryOperator) → f o ≡ true
    go op.Times = nth 0
    go op.Over = nth 1
    go op.Modulo = nth 2
    go op.Plus = nth 3
    go op.Minus = nth 4
    go op.Less = nth 5
    go op.LessEqual = nth 6
    go op.Greater = nth 7
    go op.GreaterEqual = nth 8
    go op.In = nth 9
    go op.Equal = nth 10
    go op.NotEqual = nth 11
    go op.And = nth 12
    go op.Or = nth 13
    go op.Implies = nth 14
    go op.Equivalent = nth 15

abbrev same_bool : Bool → Bool → Bool
same_bool true b = b
same_bool false b = not b

same_bool_is : (a b : Bool) → same_bool a b ≡ true → a ≡ b
same_bool_is true true h = refl
same_bool_is true false h = sym h
same_bool_is false true h = h
same_bool_is false false h = refl

-- an operator begins a link exactly on its own level
unfoldable fits_level : g.Mode → g.Tier → BinaryOperator → Bool
fits_level m t o = same_bool (has (first language (link m t)) (class_of o)) ((number (own o) == number t) && stands m o)

pub operator_begins : (m : g.Mode) (t : g.Tier) (o : BinaryOperator) → has (first language (link m t)) (class_of o) ≡ ((number (own o) == number t) && stands m o)
unfolding fits_level first is_empty
operator_begins m t o = same_bool_is _ _ (all_operators (fits_level m t) (go m t) o)
  where
    go : (m : g.Mode) (t : g.Tier) → list_all (fits_level m t) operators ≡ true
    go g.Code g.Prefix = refl
    go g.Code g.Product = refl
    go g.Code g.Sum = refl
    go g.Code g.Order = refl
    go g.Code g.Equality = refl
    go g.Code g.Conjunction = refl
    go g.Code g.Disjunction = refl
    go g.Code g.Choice = refl
    go g.Code g.Implication = refl
    go g.Code g.Equivalence = refl
    go g.InSpec g.Prefix = refl
    go g.InSpec g.Product = refl
    go g.InSpec g.Sum = refl
    go g.InSpec g.Order = refl
    go g.InSpec g.Equality = refl
    go g.InSpec g.Conjunction = refl
    go g.InSpec g.Disjunction = refl
    go g.InSpec g.Choice = refl
    go g.InSpec g.Implication = refl
    go g.InSpec g.Equivalence = refl

-- ---- no other token begins one, but for `?`

one_of : (os : List BinaryOperator) (c : ℕ) → has (map class_of os) c ≡ true → (o : BinaryOperator) × (c ≡ class_of o)
one_of [] c h = absurd (true_not_false _ h refl)
one_of (o ∷ os) c h = ⊎_elim (λ e. (o, eq_true c (class_of o) e)) (one_of os c) (or_cases (c == class_of o) (has (map class_of os) c) h)

abbrev is_choice : g.Tier → Bool
is_choice t = number t == number g.Choice

all_in : (cs ds : List ℕ) → list_all (has ds) cs ≡ true → (c : ℕ) → has cs c ≡ true → has ds c ≡ true
all_in [] ds h c k = absurd (true_not_false _ k refl)
all_in (d ∷ cs) ds h c k = ⊎_elim (λ e. subst (λ x. has ds x ≡ true) (sym (eq_true c d e)) (and_left (has ds d) _ h)) (all_in cs ds (and_right (has ds d) _ h) c) (or_cases (c == d) (has cs c) k)

link_operator : (m : g.Mode) (t : g.Tier) → t ≢ g.Choice → list_all (has (map class_of operators)) (first language (link m t)) ≡ true
unfolding first is_empty
link_operator m g.Prefix h = refl
link_operator m g.Product h = refl
link_operator m g.Sum h = refl
link_operator g.Code g.Order h = refl
link_operator g.InSpec g.Order h = refl
link_operator m g.Equality h = refl
link_operator m g.Conjunction h = refl
link_operator m g.Disjunction h = refl
link_operator m g.Choice h = absurd (h refl)
link_operator g.Code g.Implication h = refl
link_operator g.InSpec g.Implication h = refl
link_operator g.Code g.Equivalence h = refl
link_operator g.InSpec g.Equivalence h = refl

tier_cases : (t : g.Tier) → (t ≡ g.Choice) ⊎ (t ≢ g.Choice)
tier_cases g.Choice = inl refl
tier_cases g.Prefix = inr (λ e. absurd (omega (arith, ap number e)))
tier_cases g.Product = inr (λ e. absurd (omega (arith, ap number e)))
tier_cases g.Sum = inr (λ e. absurd (omega (arith, ap number e)))
tier_cases g.Order = inr (λ e. absurd (omega (arith, ap number e)))
tier_cases g.Equality = inr (λ e. absurd (omega (arith, ap number e)))
tier_cases g.Conjunction = inr (λ e. absurd (omega (arith, ap number e)))
tier_cases g.Disjunction = inr (λ e. absurd (omega (arith, ap number e)))
tier_cases g.Implication = inr (λ e. absurd (omega (arith, ap number e)))
tier_cases g.Equivalence = inr (λ e. absurd (omega (arith, ap number e)))

pub no_operator : (m : g.Mode) (t : g.Tier) (c : ℕ) → ((o : BinaryOperator) → c ≢ class_of o) → has (first language (link m t)) c ≡ true → t ≡ g.Choice
no_operator m t c none h = go (tier_cases t)
  where
    go : (t ≡ g.Choice) ⊎ (t ≢ g.Choice) → t ≡ g.Choice
    go (inl e) = e
    go (inr n) = let o = one_of operators c (all_in (first language (link m t)) (map class_of operators) (link_operator m t n) c h) in absurd (none o.0 o.1)

abbrev tiers : List g.Tier
tiers = g.Prefix ∷ g.Product ∷ g.Sum ∷ g.Order ∷ g.Equality ∷ g.Conjunction ∷ g.Disjunction ∷ g.Choice ∷ g.Implication ∷ g.Equivalence ∷ []

abbrev tier_at : ℕ → g.Tier
tier_at i = slice_index_or tiers i g.Prefix

tier_number : (t : g.Tier) → tier_at (number t) ≡ t
tier_number g.Prefix = refl
tier_number g.Product = refl
tier_number g.Sum = refl
tier_number g.Order = refl
tier_number g.Equality = refl
tier_number g.Conjunction = refl
tier_number g.Disjunction = refl
tier_number g.Choice = refl
tier_number g.Implication = refl
tier_number g.Equivalence = refl

-- an operator that begins a link is of its level, and stands in its mode
pub begun_own : (m : g.Mode) (t : g.Tier) (o : BinaryOperator) → has (first language (link m t)) (class_of o) ≡ true → (own o ≡ t) × (stands m o ≡ true)
begun_own m t o h =
    let b : ((number (own o) == number t) && stands m o) ≡ true = sym (operator_begins m t o) ∙ h in
    (sym (tier_number (own o)) ∙ ap tier_at (eq_true _ _ (and_left (number (own o) == number t) _ b)) ∙ tier_number t, and_right (number (own o) == number t) _ b)

pub owned : (t u : g.Tier) (m : g.Mode) (o : BinaryOperator) → ((number t == number u) && stands m o) ≡ true → (t ≡ u) × (stands m o ≡ true)
owned t u m o b = (sym (tier_number t) ∙ ap tier_at (eq_true _ _ (and_left (number t == number u) _ b)) ∙ tier_number u, and_right (number t == number u) _ b)

pub begins_own : (m : g.Mode) (t : g.Tier) (o : BinaryOperator) → own o ≡ t → stands m o ≡ true → has (first language (link m t)) (class_of o) ≡ true
begins_own m t o e s = operator_begins m t o ∙ rw s (rw e (ap (λ b. b && true) (true_eq (number t) (number t) refl)))

-- ---- the reader's tests

pub none_here : (m : g.Mode) (t : g.Tier) (c : ℕ) → ((o : BinaryOperator) → c ≢ class_of o) → has (first language (link m t)) c ≡ true → t ≡ g.Choice
none_here = no_operator

pub not_own : (m : g.Mode) (t : g.Tier) (o : BinaryOperator) (c : ℕ) → c ≡ class_of o → ((number (own o) == number t) && stands m o) ≡ false → has (first language (link m t)) c ≡ true → t ≡ g.Choice
not_own m t o c e f h = absurd (true_not_false _ (sym (operator_begins m t o) ∙ ap (has (first language (link m t))) (sym e) ∙ h) f)

pub here : (m : g.Mode) (t : g.Tier) (o : BinaryOperator) (c : ℕ) → c ≡ class_of o → own o ≡ t → stands m o ≡ true → true ≡ has (first language (link m t)) c
here m t o c e a b = sym (ap (has (first language (link m t))) e ∙ begins_own m t o a b)

pub question : (m : g.Mode) (t : g.Tier) (c : ℕ) → number t ≡ 7 → (c == sign s.Question) ≡ has (first language (link m t)) c
unfolding first is_empty
question m t c e = subst (λ t. (c == sign s.Question) ≡ has (first language (link m t)) c) (ap tier_at (sym e) ∙ tier_number t) (sym (go (c == sign s.Question)))
  where
    go : (b : Bool) → (b || false) ≡ b
    go true = refl
    go false = refl

pub nothing_here : (b : Bool) (t : g.Tier) → number t ≢ 7 → (b ≡ true → t ≡ g.Choice) → false ≡ b
nothing_here true t n f = absurd (n (ap number (f refl)))
nothing_here false t n f = refl
