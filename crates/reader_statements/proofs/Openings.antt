-- What is read of a statement before the first that it holds, and what is left behind that.
use Rattle.std.proofs.Common.{◌≡◌, ℕ, suc, ◌+◌, ◌≤◌, max, List, Option, Result, Ok, Err, refl, ap, sym, ◌∙◌, subst, arith, Box}
use Rattle.std.specs.Prelude.{IfOk}
use Rattle.std.specs.declared.alloc.Global.{Global}
use Rattle.ebnf.specs.Rules.{below, row, nothing, form}
use Rattle.ebnf.specs.Reading.{Out, TooDeep, on, take, read, read_rule, reads}
use denote.Bor.{Bor}
use Rattle.c_syntax.specs.declared.token.Keyword.TheVariants as k
use Rattle.c_syntax.specs.declared.token.Sign.TheVariants as s
use Rattle.c_syntax.specs.declared.token.Span.{Span}
use Rattle.c_syntax.specs.declared.token.Token.{Token}
use Rattle.c_syntax.specs.declared.statements.Stmt.{Stmt}
use Rattle.c_syntax.specs.Classes.{key, sign}
use Rattle.c_syntax.specs.Lexing.{Lexeme}
use Rattle.c_syntax.specs.Language.{language}
use Rattle.c_syntax.specs.Expressions.{Exp, Assignment}
use Rattle.c_syntax.specs.Statements as st
use Rattle.c_syntax.specs.Statements.{Braces, Stm}
use Rattle.c_syntax.specs.Grammar as g
use Rattle.c_syntax.specs.Grammar.{P, N, V, ◌▷◌, word, inside, code, optional, loop_body}
use Rattle.reader_expressions.specs.declared.reading.Parsed.{Parsed}
use Rattle.reader_expressions.specs.declared.reading.ReadFault.{ReadFault}
use Rattle.reader_expressions.specs.declared.reading.ReadFault.TheVariants as f
use Rattle.reader_expressions.specs.Reading.{Gives, lexemes, part, rule_at, one_token}
use Rattle.reader_statements.specs.declared.blocks.Front.{Front}
use Rattle.reader_statements.specs.Views.{in_box}
use Rattle.reader_statements.specs.Fronts.{Begins, above, as_front, if_end, for_test}
use Rattle.reader_statements.specs.Rows.{annotation, assigned_part, at_span, higher, unwrapping, atomic, branch, while_loop, do_loop, do_end, for_loop}

-- ---- one after the other

on_same : {A B : Type 0} (out : Out language A) (x y : A → ℕ → List Lexeme → Out language B) → ((a : A) (i : ℕ) (rest : List Lexeme) → x a i rest ≡ y a i rest) → on language out x ≡ on language out y
on_same (Ok p) x y e = e p.0 p.1 p.2
on_same (Err p) x y e = refl

-- what goes on behind one token
abbrev after : {B : Type 0} → ℕ → List Lexeme → (Span → List Lexeme → Out language B) → Out language B
after c ts x = on language (one_token c 0 (λ t. t.place) ts) (λ p i mid. x p mid)

row_on : {A B C : Type 0} (room : ℕ) (p : P B) (q : P (B → A)) (ts : List Lexeme) (x : A → ℕ → List Lexeme → Out language C) → on language (part room (row p q) ts) x ≡ on language (part room p ts) (λ b i mid. on language (part room q mid) (λ make j rest. x (make b) (max i j) rest))
unfolding read
row_on {A} {B} {C} room p q ts x = go (part room p ts)
  where
    inner : (b : B) (i : ℕ) (out : Out language (B → A)) → on language {A = A} {B = C} (on language {A = B → A} {B = A} out (λ make j rest. Ok (make b, max i j, rest))) x ≡ on language out (λ make j rest. x (make b) (max i j) rest)
    inner b i (Ok r) = refl
    inner b i (Err r) = refl

    go : (out : Out language B) → on language {A = A} {B = C} (on language {A = B} {B = A} out (λ b i mid. on language {A = B → A} {B = A} (part room q mid) (λ make j rest. Ok (make b, max i j, rest)))) x ≡ on language out (λ b i mid. on language (part room q mid) (λ make j rest. x (make b) (max i j) rest))
    go (Ok r) = inner r.0 r.1 (part room q r.2)
    go (Err r) = refl

none : (j : ℕ) → max 0 j ≡ j
none j = omega arith

none_behind : (i : ℕ) → max i 0 ≡ i
none_behind i = omega arith

word_on : {A C : Type 0} (room c : ℕ) (q : P (Span → A)) (ts : List Lexeme) (x : A → ℕ → List Lexeme → Out language C) → on language (part room (row (word c) q) ts) x ≡ after c ts (λ p mid. on language (part room q mid) (λ make j rest. x (make p) j rest))
unfolding read
word_on {A} {C} room c q ts x = row_on room (word c) q ts x ∙ go (take language c ts)
  where
    behind : Span → ℕ → List Lexeme → Out language C
    behind p i mid = on language (part room q mid) (λ make j rest. x (make p) (max i j) rest)

    go : (out : Out language Lexeme) → on language {A = Span} {B = C} (on language {A = Lexeme} {B = Span} out (λ t i rest. Ok (t.place, 0, rest))) behind ≡ on language {A = Span} {B = C} (on language {A = Lexeme} {B = Span} out (λ t i rest. Ok (t.place, 0, rest))) (λ p i mid. on language (part room q mid) (λ make j rest. x (make p) j rest))
    go (Ok r) = on_same (part room q r.2) _ _ (λ make j rest. ap (λ h. x (make r.0.place) h rest) (none j))
    go (Err r) = refl

below_on : {A C : Type 0} (room : ℕ) (n : N) (make : V n → A) (ts : List Lexeme) (x : A → ℕ → List Lexeme → Out language C) → on language (part room (below n make) ts) x ≡ on language (reads language room n ts) (λ b i rest. x (make b) i rest)
unfolding read
below_on {A} {C} room n make ts x = go (reads language room n ts)
  where
    go : (out : Out language (V n)) → on language {A = A} {B = C} (on language {A = V n} {B = A} out (λ b i rest. Ok (make b, i, rest))) x ≡ on language out (λ b i rest. x (make b) i rest)
    go (Ok r) = refl
    go (Err r) = refl

-- the last part of a row
last_on : {A B C : Type 0} (room : ℕ) (p : P B) (make : B → A) (ts : List Lexeme) (x : A → ℕ → List Lexeme → Out language C) → on language (part room (row p (nothing make)) ts) x ≡ on language (part room p ts) (λ b i rest. x (make b) i rest)
unfolding read
last_on {A} {B} {C} room p make ts x = row_on room p (nothing make) ts x ∙ on_same (part room p ts) _ _ (λ b i rest. ap (λ h. x (make b) h rest) (none_behind i))

-- ---- `if` and loops

one_up : (i j : ℕ) → suc (max i j) ≡ max (i + 1) (j + 1)
one_up i j = omega arith

flat_up : (j : ℕ) → suc j ≡ max 1 (j + 1)
flat_up j = omega arith

-- a keyword and a part in front
keyed : {A B : Type 0} (room c : ℕ) (p : P B) (q : P (B → Span → A)) (ts : List Lexeme) → rule_at room (form (row (word c) (row p q))) ts ≡ after c ts (λ o mid. on language (part room p mid) (λ b i rest. above (λ make. make b o) (i + 1) (part room q rest)))
unfolding read_rule
keyed {A} {B} room c p q ts =
    word_on room c (row p q) ts (λ a i rest. Ok (a, suc i, rest))
    ∙ on_same (one_token c 0 (λ t. t.place) ts) _ _ (λ o k mid. row_on room p q mid (λ make j rest. Ok (make o, suc j, rest)) ∙ on_same (part room p mid) _ _ (λ b i rest. on_same (part room q rest) _ _ (λ make j end. ap (λ h. Ok (make b o, h, end)) (one_up i j))))

pub branch_is : (room : ℕ) (ts : List Lexeme) → rule_at room (branch (λ x. x)) ts ≡ on language (one_token (key k.If) 0 (λ t. t.place) ts) (λ p i mid. on language (part room (inside code) mid) (λ x j rest. above (λ make. make x p) (j + 1) (part room if_end rest)))
branch_is room ts = keyed room (key k.If) (inside code) if_end ts

last_above : {A B C : Type 0} (room : ℕ) (p : P B) (make : B → A) (x : A → C) (h : ℕ) (ts : List Lexeme) → above x h (part room (row p (nothing make)) ts) ≡ above (λ b. x (make b)) h (part room p ts)
last_above room p make x h ts = last_on room p make ts (λ a i rest. Ok (x a, max h (i + 1), rest))

pub while_is : (room : ℕ) (ts : List Lexeme) → rule_at room (while_loop (λ x. x)) ts ≡ on language (one_token (key k.While) 0 (λ t. t.place) ts) (λ p i mid. on language (part room (inside code) mid) (λ x j rest. above (λ b. st.While p x b.0 b.1) (j + 1) (part room loop_body rest)))
while_is room ts =
    keyed room (key k.While) (inside code) (loop_body ▷ nothing (λ b x p. st.While p x b.0 b.1)) ts
    ∙ on_same (one_token (key k.While) 0 (λ t. t.place) ts) _ _ (λ p i mid. on_same (part room (inside code) mid) _ _ (λ x j rest. last_above room loop_body (λ b x p. st.While p x b.0 b.1) (λ make. make x p) (j + 1) rest))

pub do_is : (room : ℕ) (ts : List Lexeme) → rule_at room (do_loop (λ x. x)) ts ≡ on language (one_token (key k.Do) 0 (λ t. t.place) ts) (λ p i mid. on language (part room loop_body mid) (λ b j rest. on language (part room (do_end (λ x. x)) rest) (λ make l end. Ok (make b p, max 1 (max j l + 1), end))))
unfolding read_rule
do_is room ts =
    word_on room (key k.Do) (loop_body ▷ do_end (λ x. x)) ts (λ a i rest. Ok (a, suc i, rest))
    ∙ on_same (one_token (key k.Do) 0 (λ t. t.place) ts) _ _ (λ p i mid. row_on room loop_body (do_end (λ x. x)) mid (λ make j rest. Ok (make p, suc j, rest)) ∙ on_same (part room loop_body mid) _ _ (λ b j rest. on_same (part room (do_end (λ x. x)) rest) _ _ (λ make l end. ap (λ h. Ok (make b p, h, end)) (flat_up (max j l)))))

-- ---- `for`

abbrev maybe : P (Option Assignment)
maybe = optional assigned_part

deep : (i j l : ℕ) → max i (max j l) ≡ max (max i j) l
deep i j l = omega arith

-- what stands behind the first `;`
test_on : {A C : Type 0} (room : ℕ) (q : P (Span → Option Assignment → Span → Exp → A)) (ts : List Lexeme) (x : A → ℕ → List Lexeme → Out language C) → on language (part room (code ▷ word (sign s.Semicolon) ▷ maybe ▷ word (sign s.Close) ▷ q) ts) x
    ≡ on language (part room code ts) (λ y i mid. after (sign s.Semicolon) mid (λ n mid. on language (part room maybe mid) (λ z j mid. after (sign s.Close) mid (λ c rest. on language (part room q rest) (λ make l end. x (make c z n y) (max (max i j) l) end)))))
test_on {A} {C} room q ts x =
    row_on room code (word (sign s.Semicolon) ▷ maybe ▷ word (sign s.Close) ▷ q) ts x
    ∙ on_same (part room code ts) _ _ (λ y i mid. word_on room (sign s.Semicolon) (maybe ▷ word (sign s.Close) ▷ q) mid (λ make l end. x (make y) (max i l) end)
    ∙ on_same (one_token (sign s.Semicolon) 0 (λ t. t.place) mid) _ _ (λ n k mid. row_on room maybe (word (sign s.Close) ▷ q) mid (λ make l end. x (make n y) (max i l) end)
    ∙ on_same (part room maybe mid) _ _ (λ z j mid. word_on room (sign s.Close) q mid (λ make l end. x (make z n y) (max i (max j l)) end)
    ∙ on_same (one_token (sign s.Close) 0 (λ t. t.place) mid) _ _ (λ c k rest. on_same (part room q rest) _ _ (λ make l end. ap (λ h. x (make c z n y) h end) (deep i j l))))))

for_test_on : {C : Type 0} (room : ℕ) (ts : List Lexeme) (x : Exp × Option Assignment → ℕ → List Lexeme → Out language C) → on language (part room for_test ts) x
    ≡ on language (part room code ts) (λ y i mid. after (sign s.Semicolon) mid (λ n mid. on language (part room maybe mid) (λ z j mid. after (sign s.Close) mid (λ c rest. x (y, z) (max i j) rest))))
unfolding read
for_test_on {C} room ts x =
    test_on room (nothing (λ c z n y. (y, z))) ts x
    ∙ on_same (part room code ts) _ _ (λ y i mid. on_same (one_token (sign s.Semicolon) 0 (λ t. t.place) mid) _ _ (λ n k mid. on_same (part room maybe mid) _ _ (λ z j mid. on_same (one_token (sign s.Close) 0 (λ t. t.place) mid) _ _ (λ c k rest. ap (λ h. x (y, z) h rest) (none_behind (max i j))))))

for_up : (i j l : ℕ) → suc (max i (max j l)) ≡ max (max i j + 1) (l + 1)
for_up i j l = omega arith

abbrev for_body : P (Span → Option Assignment → Span → Exp → Span → Option Assignment → Span → Span → Stm)
for_body = loop_body ▷ nothing (λ b c z m y n x o p. st.For p x y z b.0 b.1)

pub for_is : (room : ℕ) (ts : List Lexeme) → rule_at room (for_loop (λ x. x)) ts
    ≡ on language (one_token (key k.For) 0 (λ t. t.place) ts) (λ p i mid. on language (one_token (sign s.Open) 0 (λ t. t.place) mid) (λ o i mid. on language (part room (optional assigned_part) mid) (λ x i mid. on language (one_token (sign s.Semicolon) 0 (λ t. t.place) mid) (λ n k mid. on language (part room for_test mid) (λ y j rest. above (λ b. st.For p x y.0 y.1 b.0 b.1) (max i j + 1) (part room loop_body rest))))))
unfolding read_rule
for_is room ts =
    word_on room (key k.For) (word (sign s.Open) ▷ maybe ▷ word (sign s.Semicolon) ▷ code ▷ word (sign s.Semicolon) ▷ maybe ▷ word (sign s.Close) ▷ for_body) ts (λ a i rest. Ok (a, suc i, rest))
    ∙ on_same (one_token (key k.For) 0 (λ t. t.place) ts) _ _ (λ p k mid. word_on room (sign s.Open) (maybe ▷ word (sign s.Semicolon) ▷ code ▷ word (sign s.Semicolon) ▷ maybe ▷ word (sign s.Close) ▷ for_body) mid (λ make l end. Ok (make p, suc l, end))
    ∙ on_same (one_token (sign s.Open) 0 (λ t. t.place) mid) _ _ (λ o k mid. row_on room maybe (word (sign s.Semicolon) ▷ code ▷ word (sign s.Semicolon) ▷ maybe ▷ word (sign s.Close) ▷ for_body) mid (λ make l end. Ok (make o p, suc l, end))
    ∙ on_same (part room maybe mid) _ _ (λ x i mid. word_on room (sign s.Semicolon) (code ▷ word (sign s.Semicolon) ▷ maybe ▷ word (sign s.Close) ▷ for_body) mid (λ make l end. Ok (make x o p, suc (max i l), end))
    ∙ on_same (one_token (sign s.Semicolon) 0 (λ t. t.place) mid) _ _ (λ n k mid. test_on room for_body mid (λ make l end. Ok (make n x o p, suc (max i l), end))
    ∙ on_same (part room code mid) _ _ (λ y j mid. on_same (one_token (sign s.Semicolon) 0 (λ t. t.place) mid) _ _ (λ m k mid. on_same (part room maybe mid) _ _ (λ z u mid. on_same (one_token (sign s.Close) 0 (λ t. t.place) mid) _ _ (λ c k rest. last_on room loop_body (λ b c z m y n x o p. st.For p x y z b.0 b.1) rest (λ make l end. Ok (make c z m y n x o p, suc (max i (max (max j u) l)), end)
    ) ∙ on_same (part room loop_body rest) _ _ (λ b l end. ap (λ h. Ok (st.For p x y z b.0 b.1, h, end)) (for_up i (max j u) l))))))
    ∙ sym (for_test_on room mid (λ y j rest. above (λ b. st.For p x y.0 y.1 b.0 b.1) (max i j + 1) (part room loop_body rest)))))))

-- ---- what stands behind `_(`

pub raised : (p : Span) (out : Out language (Span → Stm)) → higher (at_span p out) ≡ on language out (λ make i rest. Ok (make p, suc i, rest))
raised p (Ok r) = refl
raised p (Err r) = refl

-- a keyword, a part and `)` in front of a block
held_is : {B : Type 0} (room c : ℕ) (q : P B) (make : Span → B → Braces → Stm) (p : Span) (ts : List Lexeme) → higher (at_span p (part room (word c ▷ q ▷ word (sign s.Close) ▷ below g.BlockOf (λ x. x) ▷ nothing (λ b d x o p. make p x b)) ts))
    ≡ after c ts (λ o mid. on language (part room q mid) (λ x j mid. after (sign s.Close) mid (λ d rest. above (make p x) (j + 1) (reads language room g.BlockOf rest))))
held_is {B} room c q make p ts =
    raised p (part room (word c ▷ q ▷ word (sign s.Close) ▷ below g.BlockOf (λ x. x) ▷ nothing (λ b d x o p. make p x b)) ts)
    ∙ word_on room c (q ▷ word (sign s.Close) ▷ below g.BlockOf (λ x. x) ▷ nothing (λ b d x o p. make p x b)) ts (λ make i rest. Ok (make p, suc i, rest))
    ∙ on_same (one_token c 0 (λ t. t.place) ts) _ _ (λ o k mid. row_on room q (word (sign s.Close) ▷ below g.BlockOf (λ x. x) ▷ nothing (λ b d x o p. make p x b)) mid (λ make i rest. Ok (make o p, suc i, rest))
    ∙ on_same (part room q mid) _ _ (λ x j mid. word_on room (sign s.Close) (below g.BlockOf (λ x. x) ▷ nothing (λ b d x o p. make p x b)) mid (λ make i rest. Ok (make x o p, suc (max j i), rest))
    ∙ on_same (one_token (sign s.Close) 0 (λ t. t.place) mid) _ _ (λ d k rest. last_on room (below g.BlockOf (λ x. x)) (λ b d x o p. make p x b) rest (λ make i end. Ok (make d x o p, suc (max j i), end))
    ∙ below_on room g.BlockOf (λ x. x) rest (λ b i end. Ok (make p x b, suc (max j i), end))
    ∙ on_same (reads language room g.BlockOf rest) _ _ (λ b i end. ap (λ h. Ok (make p x b, h, end)) (one_up j i)))))

pub unwrapping_is : (room : ℕ) (p : Span) (ts : List Lexeme) → higher (at_span p (part room unwrapping ts))
    ≡ on language (one_token (key k.Unwrapping) 0 (λ t. t.place) ts) (λ o i mid. on language (reads language room (g.Level g.Code g.Choice) mid) (λ x j mid. on language (one_token (sign s.Close) 0 (λ t. t.place) mid) (λ d k rest. above (λ b. st.Unwrapping p x b.all b.end) (j + 1) (reads language room g.BlockOf rest))))
unwrapping_is room p ts =
    held_is room (key k.Unwrapping) code (λ p x b. st.Unwrapping p x b.all b.end) p ts
    ∙ on_same (one_token (key k.Unwrapping) 0 (λ t. t.place) ts) _ _ (λ o i mid. below_on room (g.Level g.Code g.Choice) (λ x. x) mid (λ x j mid. after (sign s.Close) mid (λ d rest. above (λ (b : Braces). st.Unwrapping p x b.all b.end) (j + 1) (reads language room g.BlockOf rest))))

pub atomic_is : (room : ℕ) (p : Span) (ts : List Lexeme) → higher (at_span p (part room atomic ts))
    ≡ on language (one_token (key k.Atomic) 0 (λ t. t.place) ts) (λ o i mid. on language (part room (g.list code) mid) (λ xs j mid. on language (one_token (sign s.Close) 0 (λ t. t.place) mid) (λ d k rest. above (λ b. st.Atomic p xs b.all b.end) (j + 1) (reads language room g.BlockOf rest))))
atomic_is room p ts = held_is room (key k.Atomic) (g.list code) (λ p xs b. st.Atomic p xs b.all b.end) p ts

pub annotation_is : (room : ℕ) (ts : List Lexeme) → rule_at room annotation ts ≡ on language (one_token (sign s.Annotation) 0 (λ t. t.place) ts) (λ p i mid. higher (at_span p (part room g.annotated mid)))
unfolding read_rule
annotation_is room ts =
    word_on room (sign s.Annotation) (g.annotated ▷ nothing (λ make p. make p)) ts (λ a i rest. Ok (a, suc i, rest))
    ∙ on_same (one_token (sign s.Annotation) 0 (λ t. t.place) ts) _ _ (λ p k mid. last_on room g.annotated (λ make p. make p) mid (λ make i rest. Ok (make p, suc i, rest)) ∙ sym (raised p (part room g.annotated mid)))

-- ---- fronts

pub same_begins : (room : ℕ) (r : Result (Parsed Front) ReadFault) (out whole : Out language Stm) → whole ≡ out → Begins room r out → Begins room r whole
same_begins room r out whole e b = subst (λ o. Begins room r o) (sym e) b

pub high_begins : (room : ℕ) (e : ReadFault) (tokens : Bor (List Token)) (whole : Out language Stm) → e ≡ f.TooDeep tokens → whole ≡ Err (TooDeep, lexemes tokens.now) → Begins room (Err e) whole
high_begins room e tokens whole is q = subst (λ x. Begins room (Err x) whole) (sym is) q

pub begun_err : (room : ℕ) (e : ReadFault) (out whole : Out language Stm) → whole ≡ out → Begins room (Err e) out → Gives {X = Box Stmt Global} in_box (Err e) whole
begun_err room (f.Unexpected rest) out whole is b = is ∙ b
begun_err room (f.TooDeep rest) out whole is b = is ∙ b
begun_err room f.OutOfMemory out whole is b = tt

front_begins : (room : ℕ) (r : Result (Parsed (Box Stmt Global)) ReadFault) (out : Out language Stm) → Gives in_box r out → Begins room (as_front r) out
front_begins room (Ok p) out b = b
front_begins room (Err (f.Unexpected rest)) out b = b
front_begins room (Err (f.TooDeep rest)) out b = b
front_begins room (Err f.OutOfMemory) out b = b

pub whole_begins : (room : ℕ) (r : Result (Parsed (Box Stmt Global)) ReadFault) (s : Result (Parsed Front) ReadFault) (out whole : Out language Stm) → s ≡ as_front r → whole ≡ out → Gives in_box r out → Begins room s whole
whole_begins room r s out whole e is b = same_begins room s out whole is (subst (λ x. Begins room x out) (sym e) (front_begins room r out b))

front_low : (n : ℕ) (r : Result (Parsed (Box Stmt Global)) ReadFault) → IfOk r (λ x. x.height ≤ n) → IfOk (as_front r) (λ x. x.height ≤ n)
front_low n (Ok p) h = h
front_low n (Err e) h = h

pub whole_low : (n : ℕ) (r : Result (Parsed (Box Stmt Global)) ReadFault) (s : Result (Parsed Front) ReadFault) → s ≡ as_front r → IfOk r (λ x. x.height ≤ n) → IfOk s (λ x. x.height ≤ n)
whole_low n r s e h = subst (λ (x : Result (Parsed Front) ReadFault). IfOk x (λ y. y.height ≤ n)) (sym e) (front_low n r h)

one_low : (n : ℕ) (r : Result (Parsed (Box Stmt Global)) ReadFault) → IfOk r (λ x. x.height ≡ 1) → IfOk r (λ x. x.height ≤ n + 1)
one_low n (Ok p) h = omega (arith, h)
one_low n (Err e) h = h

pub skip_low : (n : ℕ) (r : Result (Parsed (Box Stmt Global)) ReadFault) (s : Result (Parsed Front) ReadFault) → s ≡ as_front r → IfOk r (λ x. x.height ≡ 1) → IfOk s (λ x. x.height ≤ n + 1)
skip_low n r s e h = whole_low (n + 1) r s e (one_low n r h)

-- ---- one call after the other

pub then_on : {A B : Type 0} (out : Out language A) (a : A) (h : ℕ) (rest : List Lexeme) (more : A → ℕ → List Lexeme → Out language B) (whole : Out language B) → whole ≡ on language out more → out ≡ Ok (a, h, rest) → whole ≡ more a h rest
then_on out a h rest more whole is e = is ∙ ap (λ o. on language o more) e

pub stop_begins : {A X : Type 0} (v : X → A) (room : ℕ) (e : ReadFault) (out : Out language A) (more : A → ℕ → List Lexeme → Out language Stm) (whole : Out language Stm) → whole ≡ on language out more → Gives {X = X} v (Err e) out → Begins room (Err e) whole
stop_begins v room (f.Unexpected rest) out more whole is b = is ∙ ap (λ o. on language o more) b
stop_begins v room (f.TooDeep rest) out more whole is b = is ∙ ap (λ o. on language o more) b
stop_begins v room f.OutOfMemory out more whole is b = tt
