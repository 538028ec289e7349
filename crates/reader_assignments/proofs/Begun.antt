-- What a right side begins with: where no cast comes next, the expression that the tokens begin with, level by level.
use Rattle.std.proofs.Common.{◌≡◌, ◌≤◌, ◌-◌, ℕ, zero, suc, max, min, nat_le, Bool, true, false, cond, List, [], ◌∷◌, ◌++◌, Ok, Err, refl, ap, sym, ◌∙◌, arith}
use Rattle.std.specs.Prelude.{◌==◌, ◌&&◌, ◌||◌}
use Rattle.ebnf.specs.Rules.{token, below, nothing, row, by_next, form, pick, chain}
use Rattle.ebnf.specs.Sets.{has, first, first_rule, low, low_rule, is_empty}
use Rattle.ebnf.specs.Derives.{next}
use Rattle.ebnf.specs.Tools.{true_le, le_true, has_right, eq_true, and_left, and_right}
use Rattle.ebnf.specs.Reading.{Out, Fault, Unexpected, TooDeep, on, take, read, read_rule, reads, links}
use Rattle.c_syntax.specs.declared.token.Span.{Span}
use Rattle.c_syntax.specs.declared.token.Sign.TheVariants as s
use Rattle.c_syntax.specs.declared.token.Keyword.TheVariants as k
use Rattle.c_syntax.specs.declared.tree.BinaryOperator.{BinaryOperator}
use Rattle.c_syntax.specs.declared.tree.BinaryOperator.TheVariants as op
use Rattle.c_syntax.specs.declared.tree.UnaryOperator.{UnaryOperator}
use Rattle.c_syntax.specs.declared.tree.UnaryOperator.TheVariants as u
use Rattle.c_syntax.specs.Classes.{sign, key}
use Rattle.c_syntax.specs.Lexing.{Lexeme}
use Rattle.c_syntax.specs.Expressions as e
use Rattle.c_syntax.specs.Expressions.{Id, Exp}
use Rattle.c_syntax.specs.Language.{language}
use Rattle.c_syntax.specs.Grammar as g
use Rattle.c_syntax.specs.Grammar.{P, R, ◌▷◌, word}
use Rattle.reader_expressions.specs.Reading.{part, rule_at}
use Rattle.reader_expressions.proofs.Primaries.{pick_none, fits_one, fits_two}
use Rattle.reader_assignments.specs.Rows.{begins_cast, cast}

-- an answer with another value
abbrev pub mapped : {A B : Type 0} → (B → A) → Out language B → Out language A
mapped h out = on language out (λ b i rest. Ok (h b, i, rest))

module _ {A B : Type 0} (room : ℕ) (h : B → A) where
  row_mapped : {X : Type 0} (x : P X) (p : P (X → A)) (q : P (X → B)) → ((ts : List Lexeme) → part room p ts ≡ mapped (λ f y. h (f y)) (part room q ts)) → (ts : List Lexeme) → part room (row x p) ts ≡ mapped h (part room (row x q) ts)
  unfolding read
  row_mapped {X} x p q e ts = go (part room x ts)
    where
      left : X → ℕ → Out language (X → A) → Out language A
      left b i out = on language out (λ f j rest. Ok (f b, max i j, rest))

      right : X → ℕ → Out language (X → B) → Out language B
      right b i out = on language out (λ f j rest. Ok (f b, max i j, rest))

      both : (X → B) → X → A
      both f y = h (f y)

      inner : (b : X) (i : ℕ) (out : Out language (X → B)) → left b i (mapped both out) ≡ mapped h (right b i out)
      inner b i (Ok r) = refl
      inner b i (Err r) = refl

      go : (out : Out language X) → on language out (λ b i mid. left b i (part room p mid)) ≡ mapped h (on language out (λ b i mid. right b i (part room q mid)))
      go (Ok r) = ap (left r.0 r.1) (e r.2) ∙ inner r.0 r.1 (part room q r.2)
      go (Err r) = refl

  token_mapped : (c k : ℕ) (f : Lexeme → B) (ts : List Lexeme) → part room (token c k (λ x. h (f x))) ts ≡ mapped h (part room (token c k f) ts)
  unfolding read
  token_mapped c k f ts = go (take language c ts)
    where
      go : (out : Out language Lexeme) → on language out (λ x i rest. Ok (h (f x), k, rest)) ≡ mapped h (on language out (λ x i rest. Ok (f x, k, rest)))
      go (Ok r) = refl
      go (Err r) = refl

  form_mapped : (p : P A) (q : P B) (ts : List Lexeme) → part room p ts ≡ mapped h (part room q ts) → rule_at room (form p) ts ≡ mapped h (rule_at room (form q) ts)
  unfolding read_rule
  form_mapped p q ts e = rw e (go (part room q ts))
    where
      go : (out : Out language B) → on language (mapped h out) (λ a i rest. Ok (a, suc i, rest)) ≡ mapped h (on language out (λ a i rest. Ok (a, suc i, rest)))
      go (Ok r) = refl
      go (Err r) = refl

-- an expression's answer, as that of what a right side begins with
abbrev pub plainly : Out language Exp → Out language g.Begun
plainly = mapped g.Plain

abbrev over : Out language (Exp → Exp) → Out language (g.Begun → g.Begun)
over = mapped g.over_begun

-- two links that read the same
record Alike (p : P (g.Begun → g.Begun)) (q : P (Exp → Exp)) : Type 0 where
  begins : first language p ≡ first language q
  least : low language p ≡ low language q
  empty : is_empty language p ≡ is_empty language q
  reads : (room : ℕ) (ts : List Lexeme) → part room p ts ≡ over (part room q ts)

module _ (p : P (g.Begun → g.Begun)) (q : P (Exp → Exp)) (alike : Alike p q) (room : ℕ) where
  abbrev begun_links : ℕ → g.Begun → ℕ → List Lexeme → Out language g.Begun
  begun_links n x k ts = links language (reads language room) room n g.is_plain p (λ l f. f l) x k ts

  abbrev exp_links : ℕ → Exp → ℕ → List Lexeme → Out language Exp
  exp_links n x k ts = links language (reads language room) room n g.always q (λ l f. f l) x k ts

  links_alike : (n : ℕ) (x : Exp) (k : ℕ) (ts : List Lexeme) → begun_links n (g.Plain x) k ts ≡ plainly (exp_links n x k ts)
  unfolding links
  links_alike zero x k ts = rw alike.begins (go (has (first language q) (next language ts)))
    where
      go : (b : Bool) → cond b (Err (TooDeep, ts)) (Ok (g.Plain x, k, ts)) ≡ plainly (cond b (Err (TooDeep, ts)) (Ok (x, k, ts)))
      go true = refl
      go false = refl
  links_alike (suc n) x k ts = rw alike.begins (rw alike.least (rw (alike.reads room ts) (go (links_alike n) (has (first language q) (next language ts)) (nat_le (max k (low language q)) room) (part room q ts))))
    where
      go : ((x : Exp) (k : ℕ) (ts : List Lexeme) → begun_links n (g.Plain x) k ts ≡ plainly (exp_links n x k ts)) → (a b : Bool) (out : Out language (Exp → Exp))
          → cond a (cond b (on language (over out) (λ f i rest. begun_links n (f (g.Plain x)) (suc (max k i)) rest)) (Err (TooDeep, ts))) (Ok (g.Plain x, k, ts)) ≡ plainly (cond a (cond b (on language out (λ f i rest. exp_links n (f x) (suc (max k i)) rest)) (Err (TooDeep, ts))) (Ok (x, k, ts)))
      go more true true (Ok r) = more (r.0 x) (suc (max k r.1)) r.2
      go more true true (Err e) = refl
      go more true false out = refl
      go more false b out = refl

  -- a level over what stands left
  chain_alike : (l : R g.Begun) (r : R Exp) (ts : List Lexeme) → rule_at room l ts ≡ plainly (rule_at room r ts) → rule_at room (chain l g.is_plain p (λ l f. f l)) ts ≡ plainly (rule_at room (chain r g.always q (λ l f. f l)) ts)
  unfolding read_rule
  chain_alike l r ts e = rw e (go (rule_at room r ts))
    where
      go : (out : Out language Exp) → on language (plainly out) (begun_links (suc room)) ≡ plainly (on language out (exp_links (suc room)))
      go (Ok x) = links_alike (suc room) x.0 x.1 x.2
      go (Err e) = refl

-- ---- the links of each level

next_alike : (p p' : P (g.Begun → g.Begun)) (q q' : P (Exp → Exp)) → Alike p q → Alike p' q' → Alike (by_next p p') (by_next q q')
unfolding read first low is_empty
next_alike p p' q q' x y = record {
  begins = ap (λ cs. cs ++ first language p') x.begins ∙ ap (λ cs. first language q ++ cs) y.begins;
  least = ap (λ n. min n (low language p')) x.least ∙ ap (λ n. min (low language q) n) y.least;
  empty = y.empty;
  reads = λ room ts. rw x.begins (rw x.least (rw (x.reads room ts) (rw y.empty (rw y.begins (rw y.least (rw (y.reads room ts) (go room ts (has (first language q) (next language ts)) (nat_le (low language q) room) (is_empty language q' || has (first language q') (next language ts)) (nat_le (low language q') room) (part room q ts) (part room q' ts))))))));
}
  where
    go : (room : ℕ) (ts : List Lexeme) (a b c d : Bool) (u v : Out language (Exp → Exp))
        → cond a (cond b (over u) (Err (TooDeep, ts))) (cond c (cond d (over v) (Err (TooDeep, ts))) (Err (Unexpected, ts))) ≡ over (cond a (cond b u (Err (TooDeep, ts))) (cond c (cond d v (Err (TooDeep, ts))) (Err (Unexpected, ts))))
    go room ts true true c d u v = refl
    go room ts true false c d u v = refl
    go room ts false b true true u v = refl
    go room ts false b true false u v = refl
    go room ts false b false d u v = refl

abbrev begun_operator : ℕ → BinaryOperator → g.Tier → P (g.Begun → g.Begun)
begun_operator class o right = g.operator g.Code (λ x. g.Plain x) g.over_begun g.is_plain class o right

abbrev exp_operator : ℕ → BinaryOperator → g.Tier → P (Exp → Exp)
exp_operator class o right = g.operator g.Code g.same g.change g.always class o right

abbrev begun_right : BinaryOperator → g.Tier → P (Span → g.Begun → g.Begun)
begun_right o right = below (g.Level g.Code right) (λ x. x) ▷ nothing (λ r p l. g.over_begun (λ x. e.Binary p o x r) l)

abbrev exp_right : BinaryOperator → g.Tier → P (Span → Exp → Exp)
exp_right o right = below (g.Level g.Code right) (λ x. x) ▷ nothing (λ r p l. e.Binary p o l r)

abbrev over_after : (Span → Exp → Exp) → Span → g.Begun → g.Begun
over_after f y = g.over_begun (f y)

operator_alike : (class : ℕ) (o : BinaryOperator) (right : g.Tier) → Alike (begun_operator class o right) (exp_operator class o right)
unfolding read first low is_empty
operator_alike class o right = record {
  begins = refl;
  least = refl;
  empty = refl;
  reads = λ room. row_mapped room g.over_begun (word class) (begun_right o right) (exp_right o right) (row_mapped room over_after (below (g.Level g.Code right) (λ x. x)) (nothing (λ r p l. g.over_begun (λ x. e.Binary p o x r) l)) (nothing (λ r p l. e.Binary p o l r)) (λ ts. refl));
}

arrow_alike : Alike (word (sign s.Arrow) ▷ g.suffix g.Code ▷ nothing (λ f o l. g.over_begun (f o) l)) (word (sign s.Arrow) ▷ g.suffix g.Code ▷ nothing (λ f o l. g.change (f o) l))
unfolding read first low is_empty
arrow_alike = record {
  begins = refl;
  least = refl;
  empty = refl;
  reads = λ room. row_mapped room g.over_begun (word (sign s.Arrow)) arrow_begun arrow_exp (row_mapped room over_after (g.suffix g.Code) (nothing (λ f o l. g.over_begun (f o) l)) (nothing (λ f o l. f o l)) (λ ts. refl));
}
  where
    arrow_begun : P (Span → g.Begun → g.Begun)
    arrow_begun = g.suffix g.Code ▷ nothing (λ f o l. g.over_begun (f o) l)

    arrow_exp : P (Span → Exp → Exp)
    arrow_exp = g.suffix g.Code ▷ nothing (λ f o l. f o l)

-- the parts of a conditional behind its `?`
abbrev choice : P Exp
choice = below (g.Level g.Code g.Choice) (λ x. x)

abbrev last_begun : P (Span → Exp → Span → g.Begun → g.Begun)
last_begun = choice ▷ nothing (λ z c y o l. g.over_begun (λ x. e.Conditional o x y z) l)

abbrev last_exp : P (Span → Exp → Span → Exp → Exp)
last_exp = choice ▷ nothing (λ z c y o l. e.Conditional o l y z)

abbrev colon_begun : P (Exp → Span → g.Begun → g.Begun)
colon_begun = word (sign s.Colon) ▷ last_begun

abbrev colon_exp : P (Exp → Span → Exp → Exp)
colon_exp = word (sign s.Colon) ▷ last_exp

abbrev over_two : (Exp → Span → Exp → Exp) → Exp → Span → g.Begun → g.Begun
over_two f y o = g.over_begun (f y o)

abbrev over_three : (Span → Exp → Span → Exp → Exp) → Span → Exp → Span → g.Begun → g.Begun
over_three f c y o = g.over_begun (f c y o)

choice_alike : Alike (word (sign s.Question) ▷ choice ▷ colon_begun) (word (sign s.Question) ▷ choice ▷ colon_exp)
unfolding read first low is_empty
choice_alike = record {
  begins = refl;
  least = refl;
  empty = refl;
  reads = λ room. row_mapped room g.over_begun (word (sign s.Question)) (choice ▷ colon_begun) (choice ▷ colon_exp) (row_mapped room over_after choice colon_begun colon_exp
      (row_mapped room over_two (word (sign s.Colon)) last_begun last_exp (row_mapped room over_three choice (nothing (λ z c y o l. g.over_begun (λ x. e.Conditional o x y z) l)) (nothing (λ z c y o l. e.Conditional o l y z)) (λ ts. refl))));
}

-- ---- what stands leftmost

abbrev plain_after : (Span → Exp) → Span → g.Begun
plain_after f o = g.Plain (f o)

abbrev plain_two : (Exp → Span → Exp) → Exp → Span → g.Begun
plain_two f x o = g.Plain (f x o)

leaf_alike : (room c : ℕ) (f : Lexeme → Exp) (ts : List Lexeme) → rule_at room (g.leaf c (λ x. g.Plain (f x))) ts ≡ plainly (rule_at room (g.leaf c f) ts)
leaf_alike room c f ts = form_mapped room g.Plain (token c 0 (λ x. g.Plain (f x))) (token c 0 f) ts (token_mapped room g.Plain c 0 f ts)

abbrev group_begun : P (Span → g.Begun)
group_begun = g.code ▷ word (sign s.Close) ▷ nothing (λ c x o. g.Plain (e.Group o x))

abbrev group_exp : P (Span → Exp)
group_exp = g.code ▷ word (sign s.Close) ▷ nothing (λ c x o. e.Group o x)

group_tail : (room : ℕ) (ts : List Lexeme) → part room group_begun ts ≡ mapped plain_after (part room group_exp ts)
unfolding read
group_tail room = row_mapped room plain_after g.code (word (sign s.Close) ▷ nothing (λ c x o. g.Plain (e.Group o x))) (word (sign s.Close) ▷ nothing (λ c x o. e.Group o x))
    (row_mapped room plain_two (word (sign s.Close)) (nothing (λ c x o. g.Plain (e.Group o x))) (nothing (λ c x o. e.Group o x)) (λ ts. refl))

-- where no expression begins, none is read
none_read : (room : ℕ) (ts : List Lexeme) → nat_le 1 room ≡ true → has (first language g.code) (next language ts) ≡ false → reads language room (g.Level g.Code g.Choice) ts ≡ Err (Unexpected, ts)
unfolding reads read_rule first_rule first is_empty
none_read zero ts fits h = absurd cc
none_read (suc room) ts fits h = rw (pick_none (form (word (sign s.Not) ▷ below (g.Level g.Code g.Prefix) (λ x. x) ▷ nothing (λ x o. e.Unary o u.Not x))) (pick (form (word (sign s.Minus) ▷ below (g.Level g.Code g.Prefix) (λ x. x) ▷ nothing (λ x o. e.Unary o u.Negate x))) (g.postfixed g.Code g.same g.change g.always (g.primary g.Code))) room ts h) refl

cast_or_group : (room : ℕ) (ts : List Lexeme) → nat_le 1 room ≡ true → (next language ts == key k.Struct) ≡ false → part room g.cast_or_group ts ≡ mapped plain_after (part room group_exp ts)
unfolding read first low is_empty
cast_or_group room ts fits h = go (has (first language g.code) (next language ts)) refl
  where
    go : (b : Bool) → has (first language g.code) (next language ts) ≡ b → part room g.cast_or_group ts ≡ mapped plain_after (part room group_exp ts)
    go true b = rw h (rw b (rw fits (group_tail room ts)))
    go false b = rw h (rw b (rw (none_read room ts fits b) refl))

wrapped : (room : ℕ) (ts : List Lexeme) → nat_le 1 room ≡ true → (next language ts == key k.Struct) ≡ false → part room (g.cast_or_group ▷ nothing (λ f o. f o)) ts ≡ mapped plain_after (part room group_exp ts)
unfolding read
wrapped room ts fits h = ap end (cast_or_group room ts fits h) ∙ go (part room group_exp ts)
  where
    end : Out language (Span → g.Begun) → Out language (Span → g.Begun)
    end out = on language out (λ b i rest. Ok ((λ o. b o), max i 0, rest))

    go : (out : Out language (Span → Exp)) → end (mapped plain_after out) ≡ mapped plain_after out
    go (Ok r) = let z : max r.1 0 ≡ r.1 = omega arith in ap (λ h. Ok ((λ o. g.Plain (r.0 o)), h, r.2)) z
    go (Err r) = refl

abbrev open_begun : R g.Begun
open_begun = form (word (sign s.Open) ▷ g.cast_or_group ▷ nothing (λ f o. f o))

group_alike : (room : ℕ) (ts : List Lexeme) → begins_cast ts ≡ false → nat_le 1 room ≡ true → rule_at room open_begun ts ≡ plainly (rule_at room (g.group g.Code) ts)
unfolding read_rule read
group_alike room [] h fits = refl
group_alike room (x ∷ mid) h fits = go (language.class x == sign s.Open) refl h
  where
    around : {A : Type 0} → Out language (Span → A) → Out language A
    around out = on language (on language out (λ f j rest. Ok (f x.place, max 0 j, rest))) (λ a i rest. Ok (a, suc i, rest))

    fin : (out : Out language (Span → Exp)) → around (mapped plain_after out) ≡ plainly (around out)
    fin (Ok r) = refl
    fin (Err r) = refl

    go : (b : Bool) → (language.class x == sign s.Open) ≡ b → (b && (next language mid == key k.Struct)) ≡ false → rule_at room open_begun (x ∷ mid) ≡ plainly (rule_at room (g.group g.Code) (x ∷ mid))
    go true b n = rw b (ap around (wrapped room mid fits n) ∙ fin (part room group_exp mid))
    go false b n = rw b refl

primary_alike : (room : ℕ) (ts : List Lexeme) → begins_cast ts ≡ false → rule_at room g.start_primary ts ≡ plainly (rule_at room (g.primary g.Code) ts)
unfolding read_rule first_rule first low_rule low is_empty
primary_alike room ts h = go (next language ts == 1) (next language ts == 2) (next language ts == key k.Null) (next language ts == sign s.Open) (nat_le 1 room) refl refl refl refl refl
  where
    go : (a b c d f : Bool) → (next language ts == 1) ≡ a → (next language ts == 2) ≡ b → (next language ts == key k.Null) ≡ c → (next language ts == sign s.Open) ≡ d → nat_le 1 room ≡ f → rule_at room g.start_primary ts ≡ plainly (rule_at room (g.primary g.Code) ts)
    go true b c d f x1 x2 x3 x4 fits = rw x1 (rw (fits_one room) (leaf_alike room 1 (λ x. e.Name (g.id_of x)) ts))
    go false true c d f x1 x2 x3 x4 fits = rw x1 (rw x2 (rw (fits_one room) (leaf_alike room 2 (λ x. g.number_exp x.place x.word) ts)))
    go false false true d f x1 x2 x3 x4 fits = rw x1 (rw x2 (rw x3 (rw (fits_one room) (leaf_alike room (key k.Null) (λ x. e.Null x.place) ts))))
    go false false false true true x1 x2 x3 x4 fits = rw x1 (rw x2 (rw x3 (rw x4 (rw (fits_one room) (rw (fits_two room true fits) (group_alike room ts h fits))))))
    go false false false true false x1 x2 x3 x4 fits = rw x1 (rw x2 (rw x3 (rw x4 (rw (fits_one room) (rw (fits_two room false fits) refl)))))
    go false false false false f x1 x2 x3 x4 fits = rw x1 (rw x2 (rw x3 (rw x4 refl)))

unary_alike : (room c : ℕ) (o : UnaryOperator) (ts : List Lexeme) → rule_at room (form (word c ▷ below (g.Level g.Code g.Prefix) (λ x. x) ▷ nothing (λ x p. g.Plain (e.Unary p o x)))) ts ≡ plainly (rule_at room (form (word c ▷ below (g.Level g.Code g.Prefix) (λ x. x) ▷ nothing (λ x p. e.Unary p o x))) ts)
unfolding read
unary_alike room c o ts = form_mapped room g.Plain (word c ▷ right_begun) (word c ▷ right_exp) ts (row_mapped room g.Plain (word c) right_begun right_exp (row_mapped room plain_after (below (g.Level g.Code g.Prefix) (λ x. x)) (nothing (λ x p. g.Plain (e.Unary p o x))) (nothing (λ x p. e.Unary p o x)) (λ ts. refl)) ts)
  where
    right_begun : P (Span → g.Begun)
    right_begun = below (g.Level g.Code g.Prefix) (λ x. x) ▷ nothing (λ x p. g.Plain (e.Unary p o x))

    right_exp : P (Span → Exp)
    right_exp = below (g.Level g.Code g.Prefix) (λ x. x) ▷ nothing (λ x p. e.Unary p o x)

-- the third of three rules
last_pick : {A : Type 0} (p q r : R A) (room : ℕ) (ts : List Lexeme) → has (first_rule language p) (next language ts) ≡ false → has (first_rule language q) (next language ts) ≡ false → has (first_rule language r) (next language ts) ≡ true
    → nat_le (low_rule language (pick q r)) (suc room) ≡ true → nat_le (low_rule language r) (suc room) ≡ true → rule_at room (pick p (pick q r)) ts ≡ rule_at room r ts
unfolding read_rule first_rule
last_pick p q r room ts a c d m n = rw a (rw (has_right (first_rule language q) (first_rule language r) (next language ts) d) (rw m (rw c (rw d (rw n refl)))))

-- an operator in front, and what is made of its tree
abbrev not_rule : {A : Type 0} → ((Span → Exp) → Span → A) → R A
not_rule f = form (word (sign s.Not) ▷ below (g.Level g.Code g.Prefix) (λ x. x) ▷ nothing (λ x. f (λ o. e.Unary o u.Not x)))

abbrev minus_rule : {A : Type 0} → ((Span → Exp) → Span → A) → R A
minus_rule f = form (word (sign s.Minus) ▷ below (g.Level g.Code g.Prefix) (λ x. x) ▷ nothing (λ x. f (λ o. e.Unary o u.Negate x)))

-- ---- level by level

module _ (room : ℕ) (ts : List Lexeme) (h : begins_cast ts ≡ false) where
  postfix_alike : rule_at room (g.postfixed g.Code (λ x. g.Plain x) g.over_begun g.is_plain g.start_primary) ts ≡ plainly (rule_at room (g.postfixed g.Code g.same g.change g.always (g.primary g.Code)) ts)
  postfix_alike = chain_alike _ _ arrow_alike room g.start_primary (g.primary g.Code) ts (primary_alike room ts h)

  prefix_alike : rule_at room (g.prefixed g.Code (λ x. g.Plain x) g.over_begun g.is_plain g.start_primary) ts ≡ plainly (rule_at room (g.rule (g.Level g.Code g.Prefix)) ts)
  unfolding read_rule first_rule first low_rule low is_empty
  prefix_alike = go (next language ts == sign s.Not) (next language ts == sign s.Minus) (has (first_rule language (g.primary g.Code)) (next language ts)) (nat_le 1 room) refl refl refl refl
    where
      go : (a b c f : Bool) → (next language ts == sign s.Not) ≡ a → (next language ts == sign s.Minus) ≡ b → has (first_rule language (g.primary g.Code)) (next language ts) ≡ c → nat_le 1 room ≡ f
          → rule_at room (g.prefixed g.Code (λ x. g.Plain x) g.over_begun g.is_plain g.start_primary) ts ≡ plainly (rule_at room (g.rule (g.Level g.Code g.Prefix)) ts)
      go true b c true x1 x2 x3 fits = rw x1 (rw (fits_two room true fits) (unary_alike room (sign s.Not) u.Not ts))
      go true b c false x1 x2 x3 fits = rw x1 (rw (fits_two room false fits) refl)
      go false true c true x1 x2 x3 fits = rw x1 (rw x2 (rw (fits_one room) (rw (fits_two room true fits) (unary_alike room (sign s.Minus) u.Negate ts))))
      go false true c false x1 x2 x3 fits = rw x1 (rw x2 (rw (fits_one room) (rw (fits_two room false fits) refl)))
      go false false true f x1 x2 x3 fits =
          last_pick (not_rule plain_after) (minus_rule plain_after) (g.postfixed g.Code (λ x. g.Plain x) g.over_begun g.is_plain g.start_primary) room ts (ap (λ b. b || false) x1) (ap (λ b. b || false) x2) x3 (fits_one room) (fits_one room) ∙ postfix_alike
          ∙ ap plainly (sym (last_pick (not_rule (λ f. f)) (minus_rule (λ f. f)) (g.postfixed g.Code g.same g.change g.always (g.primary g.Code)) room ts (ap (λ b. b || false) x1) (ap (λ b. b || false) x2) x3 (fits_one room) (fits_one room)))
      go false false false f x1 x2 x3 fits = rw x1 (rw x2 (rw x3 refl))

  choices_alike : rule_at room g.start ts ≡ plainly (rule_at room (g.rule (g.Level g.Code g.Choice)) ts)
  choices_alike =
      chain_alike _ _ choice_alike room _ _ ts (chain_alike _ _ (operator_alike (sign s.Or) op.Or g.Conjunction) room _ _ ts (chain_alike _ _ (operator_alike (sign s.And) op.And g.Equality) room _ _ ts
      (chain_alike _ _ (next_alike _ _ _ _ (operator_alike (sign s.Equal) op.Equal g.Order) (operator_alike (sign s.NotEqual) op.NotEqual g.Order)) room _ _ ts
      (chain_alike _ _ (next_alike _ _ _ _ (operator_alike (sign s.Less) op.Less g.Sum) (next_alike _ _ _ _ (operator_alike (sign s.LessEqual) op.LessEqual g.Sum) (next_alike _ _ _ _ (operator_alike (sign s.Greater) op.Greater g.Sum) (operator_alike (sign s.GreaterEqual) op.GreaterEqual g.Sum)))) room _ _ ts
      (chain_alike _ _ (next_alike _ _ _ _ (operator_alike (sign s.Plus) op.Plus g.Product) (operator_alike (sign s.Minus) op.Minus g.Product)) room _ _ ts
      (chain_alike _ _ (next_alike _ _ _ _ (operator_alike (sign s.Star) op.Times g.Prefix) (next_alike _ _ _ _ (operator_alike (sign s.Slash) op.Over g.Prefix) (operator_alike (sign s.Percent) op.Modulo g.Prefix))) room _ _ ts prefix_alike))))))

-- ---- casts

primary_cast : (room : ℕ) (x : Lexeme) (mid : List Lexeme) → language.class x ≡ sign s.Open → (next language mid == key k.Struct) ≡ true → nat_le 1 room ≡ true → rule_at room g.start_primary (x ∷ mid) ≡ rule_at room cast (x ∷ mid)
unfolding read_rule first_rule first low_rule low is_empty read
primary_cast room x mid e n fits = rw e (rw (fits_one room) (rw (fits_two room true fits) (rw n (rw fits refl))))

primary_deep : (room : ℕ) (x : Lexeme) (mid : List Lexeme) → language.class x ≡ sign s.Open → nat_le 2 (suc room) ≡ false → rule_at room g.start_primary (x ∷ mid) ≡ Err (TooDeep, x ∷ mid)
unfolding read_rule first_rule first low_rule low is_empty
primary_deep room x mid e fits = rw e (rw (fits_one room) (rw fits refl))

reads_start : (room : ℕ) (ts : List Lexeme) → reads language (suc room) g.Start ts ≡ rule_at room g.start ts
unfolding reads
reads_start room ts = refl

abbrev begun_prefix : R g.Begun
begun_prefix = g.prefixed g.Code (λ x. g.Plain x) g.over_begun g.is_plain g.start_primary

abbrev begun_postfix : R g.Begun
begun_postfix = g.postfixed g.Code (λ x. g.Plain x) g.over_begun g.is_plain g.start_primary

prefix_cast : (room : ℕ) (x : Lexeme) (mid : List Lexeme) → language.class x ≡ sign s.Open → rule_at room begun_prefix (x ∷ mid) ≡ rule_at room begun_postfix (x ∷ mid)
unfolding first_rule first low_rule low is_empty
prefix_cast room x mid e = last_pick _ _ begun_postfix room (x ∷ mid) (rw e refl) (rw e refl) (rw e refl) (fits_one room) (fits_one room)

-- behind a cast stands no operator
module _ (room : ℕ) (l : R g.Begun) (p : P (g.Begun → g.Begun)) (ts : List Lexeme) where
  stays_cast : (x : Id) (k : ℕ) (rest : List Lexeme) → rule_at room l ts ≡ Ok (g.Cast x, k, rest) → rule_at room (chain l g.is_plain p (λ l f. f l)) ts ≡ Ok (g.Cast x, k, rest)
  unfolding read_rule links
  stays_cast x k rest e = rw e refl

  stays_err : (f : Fault × List Lexeme) → rule_at room l ts ≡ Err f → rule_at room (chain l g.is_plain p (λ l f. f l)) ts ≡ Err f
  unfolding read_rule
  stays_err f e = rw e refl

up_cast : (room : ℕ) (ts : List Lexeme) (x : Id) (k : ℕ) (rest : List Lexeme) → rule_at room g.start_primary ts ≡ Ok (g.Cast x, k, rest) → rule_at room begun_prefix ts ≡ rule_at room begun_postfix ts → rule_at room g.start ts ≡ Ok (g.Cast x, k, rest)
up_cast room ts x k rest e q =
    stays_cast room _ _ ts x k rest (stays_cast room _ _ ts x k rest (stays_cast room _ _ ts x k rest (stays_cast room _ _ ts x k rest (stays_cast room _ _ ts x k rest (stays_cast room _ _ ts x k rest (stays_cast room begun_prefix _ ts x k rest (q ∙ stays_cast room g.start_primary _ ts x k rest e)))))))

up_err : (room : ℕ) (ts : List Lexeme) (f : Fault × List Lexeme) → rule_at room begun_prefix ts ≡ Err f → rule_at room g.start ts ≡ Err f
up_err room ts f e = stays_err room _ _ ts f (stays_err room _ _ ts f (stays_err room _ _ ts f (stays_err room _ _ ts f (stays_err room _ _ ts f (stays_err room _ _ ts f (stays_err room begun_prefix _ ts f e))))))

-- the tokens of a cast
begun_by : (x : Lexeme) (mid : List Lexeme) → begins_cast (x ∷ mid) ≡ true → (language.class x ≡ sign s.Open) × ((next language mid == key k.Struct) ≡ true)
begun_by x mid h = (eq_true _ _ (and_left (language.class x == sign s.Open) _ h), and_right (language.class x == sign s.Open) _ h)

less : (room : ℕ) → suc room - 1 ≡ room
less room = omega arith

pub cast_ok : (room : ℕ) (ts : List Lexeme) (x : Id) (k : ℕ) (rest : List Lexeme) → begins_cast ts ≡ true → nat_le 2 room ≡ true → rule_at (room - 1) cast ts ≡ Ok (g.Cast x, k, rest) → reads language room g.Start ts ≡ Ok (g.Cast x, k, rest)
cast_ok zero ts x k rest h fits e = absurd cc
cast_ok (suc room) [] x k rest h fits e = absurd cc
cast_ok (suc room) (t ∷ mid) x k rest h fits e =
    let b = begun_by t mid h in
    let n : 2 ≤ suc room = le_true 2 (suc room) fits in
    reads_start room (t ∷ mid) ∙ up_cast room (t ∷ mid) x k rest (primary_cast room t mid b.0 b.1 (true_le 1 room (omega arith)) ∙ ap (λ i. rule_at i cast (t ∷ mid)) (sym (less room)) ∙ e) (prefix_cast room t mid b.0)

pub cast_err : (room : ℕ) (ts : List Lexeme) (e : Fault × List Lexeme) → begins_cast ts ≡ true → nat_le 2 room ≡ true → rule_at (room - 1) cast ts ≡ Err e → reads language room g.Start ts ≡ Err e
cast_err zero ts e h fits q = absurd cc
cast_err (suc room) [] e h fits q = absurd cc
cast_err (suc room) (t ∷ mid) e h fits q =
    let b = begun_by t mid h in
    let n : 2 ≤ suc room = le_true 2 (suc room) fits in
    reads_start room (t ∷ mid) ∙ up_err room (t ∷ mid) e (prefix_cast room t mid b.0 ∙ stays_err room g.start_primary _ (t ∷ mid) e (primary_cast room t mid b.0 b.1 (true_le 1 room (omega arith)) ∙ ap (λ i. rule_at i cast (t ∷ mid)) (sym (less room)) ∙ q))

pub cast_deep : (room : ℕ) (ts : List Lexeme) → begins_cast ts ≡ true → nat_le 2 room ≡ false → reads language room g.Start ts ≡ Err (TooDeep, ts)
unfolding reads
cast_deep zero ts h fits = refl
cast_deep (suc room) [] h fits = absurd cc
cast_deep (suc room) (t ∷ mid) h fits = let b = begun_by t mid h in up_err room (t ∷ mid) (TooDeep, t ∷ mid) (prefix_cast room t mid b.0 ∙ stays_err room g.start_primary _ (t ∷ mid) (TooDeep, t ∷ mid) (primary_deep room t mid b.0 fits))

pub plain_read : (room : ℕ) (ts : List Lexeme) → begins_cast ts ≡ false → reads language room g.Start ts ≡ plainly (reads language room (g.Level g.Code g.Choice) ts)
unfolding reads
plain_read zero ts h = refl
plain_read (suc room) ts h = choices_alike room ts h
