-- The language can be read from left to right by one token: each rule suits its neighbours, and the tables say of each rule what holds of it.
use Rattle.std.proofs.Common.{◌≡◌, ◌⊎◌, inl, inr, ⊎_elim, ℕ, zero, suc, Bool, true, false, List, [], ◌∷◌, refl, ap, sym, ◌∙◌, subst, arith}
use Rattle.std.specs.Prelude.{◌&&◌, not, ◌==◌, nat_lt, slice_index_or}
use Rattle.std.specs.List.{list_all}
use Rattle.ebnf.specs.Rules.{token, below, nothing, row, by_value, by_next, many, until, form, pick, chain, climb}
use Rattle.ebnf.specs.Sets.{PartOf, RuleOf, has, low, low_rule, first, first_rule, more, more_rule, is_empty, is_flat, is_predictive, is_predictive_rule, leads, leads_rule}
use Rattle.ebnf.specs.Derives.{Derives, DerivesRule, Within, IsPhrase}
use Rattle.ebnf.specs.Refutes.{S}
use Rattle.ebnf.specs.Fronts.{CanEnd, Lasts, LastsRule, IsReadable}
use Rattle.ebnf.specs.Tools.{and_left, and_right, eq_true, not_true, or_cases}
use Rattle.c_syntax.specs.declared.token.Sign.TheVariants as s
use Rattle.c_syntax.specs.Tokens.{Mark}
use Rattle.c_syntax.specs.Lexing.{Lexeme}
use Rattle.c_syntax.specs.Statements.{Inv, Stm}
use Rattle.c_syntax.specs.Statements as st
use Rattle.c_syntax.specs.Grammar.{Mode, Code, InSpec, Prefix, Product, Sum, Order, Equality, Conjunction, Disjunction, Choice, Implication, Equivalence, N, Level, Primary, Unnamed, Start, NamePlace, OtherPlace, AnyPlace, GhostName, GhostOther, SetStart, OwnedSet, SetQuantifier, SetBody, Membership, Element, InterlockedCall, Allocation, GhostArgument, Assigned, MakeClaim, GhostBody, GhostStatement, BlockOf, Statement, LoopItem, WritesOf, ClauseOf, MemberOf, ItemOf, Program, rule}
use Rattle.c_syntax.specs.Language.{language, least, begins, goes, rank}

-- ---- a test of all nonterminals

abbrev levels : Mode → List N
levels m = Level m Prefix ∷ Level m Product ∷ Level m Sum ∷ Level m Order ∷ Level m Equality ∷ Level m Conjunction ∷ Level m Disjunction ∷ Level m Choice ∷ Level m Implication ∷ Level m Equivalence ∷ Primary m ∷ []

abbrev others : List N
others = Unnamed ∷ Start ∷ NamePlace ∷ OtherPlace ∷ AnyPlace ∷ GhostName ∷ GhostOther ∷ SetStart ∷ OwnedSet ∷ SetQuantifier ∷ SetBody ∷ Membership ∷ Element ∷ InterlockedCall ∷ Allocation ∷ GhostArgument ∷ Assigned ∷ MakeClaim ∷ GhostBody ∷ GhostStatement ∷ BlockOf ∷ Statement ∷ LoopItem ∷ WritesOf ∷ ClauseOf ∷ MemberOf ∷ ItemOf ∷ Program ∷ []

abbrev every : (N → Bool) → Bool
every f = list_all f (levels Code) && (list_all f (levels InSpec) && list_all f others)

at : (f : N → Bool) (ns : List N) (i : ℕ) (d : N) → list_all f ns ≡ true → f d ≡ true → f (slice_index_or ns i d) ≡ true
at f [] i d h k = k
at f (n ∷ ns) zero d h k = and_left (f n) _ h
at f (n ∷ ns) (suc i) d h k = at f ns i d (and_right (f n) _ h) k

each : (f : N → Bool) → every f ≡ true → (n : N) → f n ≡ true
each f h n = go n
  where
    rest : list_all f others ≡ true
    rest = and_right (list_all f (levels InSpec)) _ (and_right (list_all f (levels Code)) _ h)

    last : f Program ≡ true
    last = at f others 27 (Unnamed) rest (and_left (f Unnamed) _ rest)

    other : (i : ℕ) → f (slice_index_or others i Program) ≡ true
    other i = at f others i Program rest last

    level : (m : Mode) → list_all f (levels m) ≡ true
    level Code = and_left (list_all f (levels Code)) _ h
    level InSpec = and_left (list_all f (levels InSpec)) _ (and_right (list_all f (levels Code)) _ h)

    tier : (m : Mode) (i : ℕ) → f (slice_index_or (levels m) i Program) ≡ true
    tier m i = at f (levels m) i Program (level m) last

    go : (n : N) → f n ≡ true
    go (Level m Prefix) = tier m 0
    go (Level m Product) = tier m 1
    go (Level m Sum) = tier m 2
    go (Level m Order) = tier m 3
    go (Level m Equality) = tier m 4
    go (Level m Conjunction) = tier m 5
    go (Level m Disjunction) = tier m 6
    go (Level m Choice) = tier m 7
    go (Level m Implication) = tier m 8
    go (Level m Equivalence) = tier m 9
    go (Primary m) = tier m 10
    go Unnamed = other 0
    go Start = other 1
    go NamePlace = other 2
    go OtherPlace = other 3
    go AnyPlace = other 4
    go GhostName = other 5
    go GhostOther = other 6
    go SetStart = other 7
    go OwnedSet = other 8
    go SetQuantifier = other 9
    go SetBody = other 10
    go Membership = other 11
    go Element = other 12
    go InterlockedCall = other 13
    go Allocation = other 14
    go GhostArgument = other 15
    go Assigned = other 16
    go MakeClaim = other 17
    go GhostBody = other 18
    go GhostStatement = other 19
    go BlockOf = other 20
    go Statement = other 21
    go LoopItem = other 22
    go WritesOf = other 23
    go ClauseOf = other 24
    go MemberOf = other 25
    go ItemOf = other 26
    go Program = other 27

-- ---- lists of classes

abbrev same : List ℕ → List ℕ → Bool
same [] [] = true
same (c ∷ cs) (d ∷ ds) = (c == d) && same cs ds
same cs ds = false

same_is : (cs ds : List ℕ) → same cs ds ≡ true → cs ≡ ds
same_is [] [] h = refl
same_is [] (d ∷ ds) h = absurd cc
same_is (c ∷ cs) [] h = absurd cc
same_is (c ∷ cs) (d ∷ ds) h = ap (λ (x : ℕ). x ∷ cs) (eq_true c d (and_left (c == d) _ h)) ∙ ap (λ xs. d ∷ xs) (same_is cs ds (and_right (c == d) _ h))

abbrev are_in : List ℕ → List ℕ → Bool
are_in [] ds = true
are_in (c ∷ cs) ds = has ds c && are_in cs ds

in_has : (cs ds : List ℕ) → are_in cs ds ≡ true → (c : ℕ) → has cs c ≡ true → has ds c ≡ true
in_has [] ds h c k = absurd cc
in_has (d ∷ cs) ds h c k = ⊎_elim (λ e. subst (λ x. has ds x ≡ true) (sym (eq_true c d e)) (and_left (has ds d) _ h)) (in_has cs ds (and_right (has ds d) _ h) c) (or_cases (c == d) (has cs c) k)

-- ---- loops end with an empty statement

abbrev semicolon : Lexeme
semicolon = record { word = Mark s.Semicolon; place = record { line = 1; column = 1 }; start = 0; end = 1 }

abbrev skip : Inv ⊎ Stm
skip = inr (st.Skip semicolon.place)

abbrev is_right : {A B : Type 0} → A ⊎ B → Bool
is_right (inl x) = false
is_right (inr x) = true

abbrev can_skip : {A B : Type 0} → PartOf language (A ⊎ B) → Bool
can_skip (below LoopItem f) = is_right (f skip)
can_skip _ = false

unfoldable closes : {A : Type 0} → PartOf language A → Bool
closes (token c k f) = true
closes (below n f) = true
closes (nothing v) = true
closes (row p q) = closes p && closes q
closes (by_value p t q r) = closes p && (closes q && closes r)
closes (by_next p q) = closes p && closes q
closes (many p f) = closes p
closes (until p f) = closes p && can_skip p

unfoldable closes_rule : {A : Type 0} → RuleOf language A → Bool
closes_rule (form p) = closes p
closes_rule (pick p q) = closes_rule p && closes_rule q
closes_rule (chain s t l f) = closes_rule s && closes l
closes_rule (climb s c m l) = closes s && (closes m && closes l)

skipped : (new : List Lexeme) → IsPhrase language LoopItem (semicolon ∷ new) skip 1 new
unfolding Derives DerivesRule Within first_rule first is_empty
skipped new = (1, (0, (semicolon, refl, refl, refl, refl), refl))

skip_ends : {A B : Type 0} (p : PartOf language (A ⊎ B)) → can_skip p ≡ true → CanEnd language (Derives language (S language) p) (more language p) (low language p)
unfolding Derives low
skip_ends {A} {B} (below LoopItem f) h = go (f skip) refl h
  where
    go : (x : A ⊎ B) → f skip ≡ x → is_right x ≡ true → CanEnd language (Derives language (S language) (below LoopItem f)) (more language (below LoopItem f)) 1
    go (inl x) e k = absurd cc
    go (inr x) e k = record { late = semicolon ∷ []; value = x; high = 1; fits = omega (arith); is = λ new free. (skip, skipped new, sym e) }
skip_ends _ h = absurd cc

closes_lasts : {A : Type 0} (p : PartOf language A) → closes p ≡ true → Lasts language p
unfolding closes Lasts
closes_lasts (token c k f) h = tt
closes_lasts (below n f) h = tt
closes_lasts (nothing v) h = tt
closes_lasts (row p q) h = (closes_lasts p (and_left (closes p) _ h), closes_lasts q (and_right (closes p) _ h))
closes_lasts (by_value p t q r) h =
    let k = and_right (closes p) _ h in
    (closes_lasts p (and_left (closes p) _ h), closes_lasts q (and_left (closes q) _ k), closes_lasts r (and_right (closes q) _ k))
closes_lasts (by_next p q) h = (closes_lasts p (and_left (closes p) _ h), closes_lasts q (and_right (closes p) _ h))
closes_lasts (many p f) h = closes_lasts p h
closes_lasts (until p f) h = (closes_lasts p (and_left (closes p) _ h), skip_ends p (and_right (closes p) _ h))

closes_lasts_rule : {A : Type 0} (r : RuleOf language A) → closes_rule r ≡ true → LastsRule language r
unfolding closes_rule LastsRule
closes_lasts_rule (form p) h = closes_lasts p h
closes_lasts_rule (pick p q) h = (closes_lasts_rule p (and_left (closes_rule p) _ h), closes_lasts_rule q (and_right (closes_rule p) _ h))
closes_lasts_rule (chain s t l f) h = (closes_lasts_rule s (and_left (closes_rule s) _ h), closes_lasts l (and_right (closes_rule s) _ h))
closes_lasts_rule (climb s c m l) h =
    let k = and_right (closes s) _ h in
    (closes_lasts s (and_left (closes s) _ h), closes_lasts m (and_left (closes m) _ k), closes_lasts l (and_right (closes m) _ k))

-- ---- each nonterminal's rule

rules : (n : N) → is_predictive_rule language (rule n) ≡ true
unfolding is_predictive_rule is_predictive more more_rule first first_rule is_empty low is_flat
rules n = each (λ m. is_predictive_rule language (rule m)) refl n

lows : (n : N) → least n ≡ low_rule language (rule n)
unfolding low_rule low
lows n = eq_true _ _ (each (λ m. least m == low_rule language (rule m)) refl n)

firsts : (n : N) → begins n ≡ first_rule language (rule n)
unfolding first_rule first is_empty
firsts n = same_is _ _ (each (λ m. same (begins m) (first_rule language (rule m))) refl n)

mores : (n : N) (c : ℕ) → has (more_rule language (rule n)) c ≡ true → has (goes n) c ≡ true
unfolding more_rule more first is_empty
mores n c h = in_has _ _ (each (λ m. are_in (more_rule language (rule m)) (goes m)) refl n) c h

lasts : (n : N) → LastsRule language (rule n)
unfolding closes_rule closes
lasts n = closes_lasts_rule (rule n) (each (λ m. closes_rule (rule m)) refl n)

real : (n : N) → has (begins n) 0 ≡ false
real n = not_true _ (each (λ m. not (has (begins m) 0)) refl n)

rises : (n : N) → leads_rule language (λ m. nat_lt (rank m) (rank n)) (rule n) ≡ true
unfolding leads_rule leads is_empty
rises n = each (λ o. leads_rule language (λ m. nat_lt (rank m) (rank o)) (rule o)) refl n

pub readable : IsReadable language
readable = record { good = record { rules = rules; least = lows; begins = firsts; goes = mores }; lasts = lasts; real = real; leads = rises }
