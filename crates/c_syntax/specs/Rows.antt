-- Worked rows: texts, as tokens, with how high their item is, or with the first token that doesn't go on.
use Rattle.std.specs.Prelude.{ℕ, suc, ◌+◌, Bool, true, false, ◌&&◌, ◌==◌, List, [], ◌∷◌, ◌++◌, length, replicate, Some, Result, Ok, Err}
use Rattle.std.specs.List.{list_all}
use Rattle.std.proofs.Common.{◌≡◌, refl}
use Rattle.int_ranges.specs.declared.ctype.CType.TheVariants as c
use Rattle.int_ranges.specs.declared.ctype.CType.TheVariants.{Int}
use Rattle.ebnf.specs.Sets.{first, first_rule, low, low_rule, is_empty}
use Rattle.ebnf.specs.Reading.{Fault, Unexpected, TooDeep, Out, read, links, climbs, read_rule, reads}
use Rattle.c_syntax.specs.declared.token.Keyword.TheVariants as k
use Rattle.c_syntax.specs.declared.token.SpecWord.TheVariants as w
use Rattle.c_syntax.specs.declared.token.Sign.TheVariants as s
use Rattle.c_syntax.specs.Tokens.{Word, Name, Key, Spec, Number, Mark, End}
use Rattle.c_syntax.specs.Lexing.{Lexeme}
use Rattle.c_syntax.specs.Items as i
use Rattle.c_syntax.specs.Items.{Item}
use Rattle.c_syntax.specs.Statements as st
use Rattle.c_syntax.specs.Language.{language}
use Rattle.c_syntax.specs.Laws.{read_items}
use Rattle.c_syntax.specs.Faults.{SyntaxFault, UnexpectedToken, UnknownForm, TooHigh, read_source}
use Rattle.c_syntax.specs.declared.token.Span.{Span}
use Rattle.c_syntax.specs.declared.tree.Attribute.TheVariants as attributes
use Rattle.c_syntax.specs.declared.tree.Condition.TheVariants as conditions
use Rattle.c_syntax.specs.declared.tree.BinaryOperator.TheVariants as op
use Rattle.c_syntax.specs.declared.tree.Quantifier.TheVariants as quantifiers
use Rattle.c_syntax.specs.Expressions as e
use Rattle.c_syntax.specs.Expressions.{Id}
use Rattle.c_syntax.specs.Grammar.{Level, Program, InSpec, Equivalence}

-- words, each where the next comes, and the end
abbrev placed : ℕ → List Word → List Lexeme
placed n [] = record { word = End; place = record { line = 1; column = n }; start = n; end = n } ∷ []
placed n (x ∷ xs) = record { word = x; place = record { line = 1; column = n }; start = n; end = n } ∷ placed (suc n) xs

abbrev name : Word
name = Name (97 ∷ [])

abbrev number : Word
number = Number 1 Int

abbrev is_high : ℕ → Out language (List Item) → Bool
is_high h (Ok p) = (length p.0 == 1) && (p.1 == h + 1)
is_high h (Err e) = false

abbrev stops : Fault → ℕ → Out language (List Item) → Bool
stops k left (Ok p) = false
stops Unexpected left (Err (Unexpected, rest)) = length rest == left
stops TooDeep left (Err (TooDeep, rest)) = length rest == left
stops k left (Err e) = false

abbrev same_fault : SyntaxFault → SyntaxFault → Bool
same_fault UnexpectedToken UnexpectedToken = true
same_fault UnknownForm UnknownForm = true
same_fault TooHigh TooHigh = true
same_fault f g = false

abbrev is_fault : SyntaxFault → ℕ → Result (List Item × ℕ) (SyntaxFault × Span) → Bool
is_fault f column (Ok p) = false
is_fault f column (Err e) = same_fault f e.0 && (e.1.column == column)

abbrev reads_none : Result (List Item × ℕ) (SyntaxFault × Span) → Bool
reads_none (Ok p) = length p.0 == 0
reads_none (Err e) = false

-- one item, so high
abbrev item : ℕ → List Word → Bool
item h xs = is_high h (read_items (placed 1 xs))

-- with the words in front another word could stand here
abbrev unexpected : List Word → List Word → Bool
unexpected xs ys = stops Unexpected (suc (length ys)) (read_items (placed 1 (xs ++ ys)))

abbrev too_deep : List Word → List Word → Bool
too_deep xs ys = stops TooDeep (suc (length ys)) (read_items (placed 1 (xs ++ ys)))

abbrev times : ℕ → Word → List Word → List Word
times n x xs = replicate n x ++ xs

abbrev items : List Bool
items =
    -- void f() { }
    item 2 (Key k.Void ∷ name ∷ Mark s.Open ∷ Mark s.Close ∷ Mark s.BraceOpen ∷ Mark s.BraceClose ∷ []) ∷
    -- void f() { ; }
    item 3 (Key k.Void ∷ name ∷ Mark s.Open ∷ Mark s.Close ∷ Mark s.BraceOpen ∷ Mark s.Semicolon ∷ Mark s.BraceClose ∷ []) ∷
    -- void f() { int x; }
    item 4 (Key k.Void ∷ name ∷ Mark s.Open ∷ Mark s.Close ∷ Mark s.BraceOpen ∷ Key k.Int ∷ name ∷ Mark s.Semicolon ∷ Mark s.BraceClose ∷ []) ∷
    -- void f() { f(); }
    item 4 (Key k.Void ∷ name ∷ Mark s.Open ∷ Mark s.Close ∷ Mark s.BraceOpen ∷ name ∷ Mark s.Open ∷ Mark s.Close ∷ Mark s.Semicolon ∷ Mark s.BraceClose ∷ []) ∷
    -- void f() { return 1; }
    item 4 (Key k.Void ∷ name ∷ Mark s.Open ∷ Mark s.Close ∷ Mark s.BraceOpen ∷ Key k.Return ∷ number ∷ Mark s.Semicolon ∷ Mark s.BraceClose ∷ []) ∷
    -- int f(int a, struct S *p) { return p->x + a * 2; }
    item 6 (Key k.Int ∷ name ∷ Mark s.Open ∷ Key k.Int ∷ name ∷ Mark s.Comma ∷ Key k.Struct ∷ name ∷ Mark s.Star ∷ name ∷ Mark s.Close ∷ Mark s.BraceOpen ∷ Key k.Return ∷ name ∷ Mark s.Arrow ∷ name ∷ Mark s.Plus ∷ name ∷ Mark s.Star ∷ number ∷ Mark s.Semicolon ∷ Mark s.BraceClose ∷ []) ∷
    -- struct S { int x; };
    item 2 (Key k.Struct ∷ name ∷ Mark s.BraceOpen ∷ Key k.Int ∷ name ∷ Mark s.Semicolon ∷ Mark s.BraceClose ∷ Mark s.Semicolon ∷ []) ∷
    -- struct S { int x; _(invariant \this->x == 1) };
    item 5 (Key k.Struct ∷ name ∷ Mark s.BraceOpen ∷ Key k.Int ∷ name ∷ Mark s.Semicolon ∷ Mark s.Annotation ∷ Key k.Invariant ∷ Spec w.This ∷ Mark s.Arrow ∷ name ∷ Mark s.Equal ∷ number ∷ Mark s.Close ∷ Mark s.BraceClose ∷ Mark s.Semicolon ∷ []) ∷
    -- _(claimable, volatile_owns) struct S { volatile int x; _(ghost \object o;) _(invariant x > 0) };
    item 4 (Mark s.Annotation ∷ Key k.Claimable ∷ Mark s.Comma ∷ Key k.VolatileOwns ∷ Mark s.Close ∷ Key k.Struct ∷ name ∷ Mark s.BraceOpen ∷ Key k.Volatile ∷ Key k.Int ∷ name ∷ Mark s.Semicolon ∷ Mark s.Annotation ∷ Key k.Ghost ∷ Spec w.Object ∷ name ∷ Mark s.Semicolon ∷ Mark s.Close ∷ Mark s.Annotation ∷ Key k.Invariant ∷ name ∷ Mark s.Greater ∷ number ∷ Mark s.Close ∷ Mark s.BraceClose ∷ Mark s.Semicolon ∷ []) ∷
    -- void f() { x = InterlockedExchange(&p->f, 1) == a && b; }
    item 7 (Key k.Void ∷ name ∷ Mark s.Open ∷ Mark s.Close ∷ Mark s.BraceOpen ∷ name ∷ Mark s.Assign ∷ Key k.Exchange ∷ Mark s.Open ∷ Mark s.Ampersand ∷ name ∷ Mark s.Arrow ∷ name ∷ Mark s.Comma ∷ number ∷ Mark s.Close ∷ Mark s.Equal ∷ name ∷ Mark s.And ∷ name ∷ Mark s.Semicolon ∷ Mark s.BraceClose ∷ []) ∷
    -- void f() { _(assert \wrapped(\result)) }
    item 5 (Key k.Void ∷ name ∷ Mark s.Open ∷ Mark s.Close ∷ Mark s.BraceOpen ∷ Mark s.Annotation ∷ Key k.Assert ∷ Spec w.Wrapped ∷ Mark s.Open ∷ Spec w.Result ∷ Mark s.Close ∷ Mark s.Close ∷ Mark s.BraceClose ∷ []) ∷
    -- void f() { _(assert \wrapped((a ==> b))) }
    item 7 (Key k.Void ∷ name ∷ Mark s.Open ∷ Mark s.Close ∷ Mark s.BraceOpen ∷ Mark s.Annotation ∷ Key k.Assert ∷ Spec w.Wrapped ∷ Mark s.Open ∷ Mark s.Open ∷ name ∷ Mark s.Implies ∷ name ∷ Mark s.Close ∷ Mark s.Close ∷ Mark s.Close ∷ Mark s.BraceClose ∷ []) ∷
    -- void f() { _(assert (a ==> b) && c) }
    item 7 (Key k.Void ∷ name ∷ Mark s.Open ∷ Mark s.Close ∷ Mark s.BraceOpen ∷ Mark s.Annotation ∷ Key k.Assert ∷ Mark s.Open ∷ name ∷ Mark s.Implies ∷ name ∷ Mark s.Close ∷ Mark s.And ∷ name ∷ Mark s.Close ∷ Mark s.BraceClose ∷ []) ∷
    -- void f() { _(ghost if (a) if (b) x = 1;;;) }
    item 7 (Key k.Void ∷ name ∷ Mark s.Open ∷ Mark s.Close ∷ Mark s.BraceOpen ∷ Mark s.Annotation ∷ Key k.Ghost ∷ Key k.If ∷ Mark s.Open ∷ name ∷ Mark s.Close ∷ Key k.If ∷ Mark s.Open ∷ name ∷ Mark s.Close ∷ name ∷ Mark s.Assign ∷ number ∷ Mark s.Semicolon ∷ Mark s.Semicolon ∷ Mark s.Semicolon ∷ Mark s.Close ∷ Mark s.BraceClose ∷ []) ∷
    -- void f() { vcc_spawn(f,); }
    item 4 (Key k.Void ∷ name ∷ Mark s.Open ∷ Mark s.Close ∷ Mark s.BraceOpen ∷ Key k.VccSpawn ∷ Mark s.Open ∷ name ∷ Mark s.Comma ∷ Mark s.Close ∷ Mark s.Semicolon ∷ Mark s.BraceClose ∷ []) ∷
    -- void f() { _(ghost { }) }
    item 4 (Key k.Void ∷ name ∷ Mark s.Open ∷ Mark s.Close ∷ Mark s.BraceOpen ∷ Mark s.Annotation ∷ Key k.Ghost ∷ Mark s.BraceOpen ∷ Mark s.BraceClose ∷ Mark s.Close ∷ Mark s.BraceClose ∷ []) ∷
    -- void f() { p = (struct S *) malloc(sizeof(struct S)); }
    item 5 (Key k.Void ∷ name ∷ Mark s.Open ∷ Mark s.Close ∷ Mark s.BraceOpen ∷ name ∷ Mark s.Assign ∷ Mark s.Open ∷ Key k.Struct ∷ name ∷ Mark s.Star ∷ Mark s.Close ∷ Key k.Malloc ∷ Mark s.Open ∷ Key k.Sizeof ∷ Mark s.Open ∷ Key k.Struct ∷ name ∷ Mark s.Close ∷ Mark s.Close ∷ Mark s.Semicolon ∷ Mark s.BraceClose ∷ []) ∷
    -- void f() _(requires \true) { }
    item 3 (Key k.Void ∷ name ∷ Mark s.Open ∷ Mark s.Close ∷ Mark s.Annotation ∷ Key k.Requires ∷ Spec w.True ∷ Mark s.Close ∷ Mark s.BraceOpen ∷ Mark s.BraceClose ∷ []) ∷
    -- void f() { for (;1;) ; }
    item 4 (Key k.Void ∷ name ∷ Mark s.Open ∷ Mark s.Close ∷ Mark s.BraceOpen ∷ Key k.For ∷ Mark s.Open ∷ Mark s.Semicolon ∷ number ∷ Mark s.Semicolon ∷ Mark s.Close ∷ Mark s.Semicolon ∷ Mark s.BraceClose ∷ []) ∷
    -- void f() { while (1) _(invariant 1) _(invariant 2) ; }
    item 5 (Key k.Void ∷ name ∷ Mark s.Open ∷ Mark s.Close ∷ Mark s.BraceOpen ∷ Key k.While ∷ Mark s.Open ∷ number ∷ Mark s.Close ∷ Mark s.Annotation ∷ Key k.Invariant ∷ number ∷ Mark s.Close ∷ Mark s.Annotation ∷ Key k.Invariant ∷ number ∷ Mark s.Close ∷ Mark s.Semicolon ∷ Mark s.BraceClose ∷ []) ∷
    -- void f() { _(atomic p, q) { p->x = 1; } }
    item 7 (Key k.Void ∷ name ∷ Mark s.Open ∷ Mark s.Close ∷ Mark s.BraceOpen ∷ Mark s.Annotation ∷ Key k.Atomic ∷ name ∷ Mark s.Comma ∷ name ∷ Mark s.Close ∷ Mark s.BraceOpen ∷ name ∷ Mark s.Arrow ∷ name ∷ Mark s.Assign ∷ number ∷ Mark s.Semicolon ∷ Mark s.BraceClose ∷ Mark s.BraceClose ∷ []) ∷
    -- void f() { if (a) if (b) ; else ; }
    item 5 (Key k.Void ∷ name ∷ Mark s.Open ∷ Mark s.Close ∷ Mark s.BraceOpen ∷ Key k.If ∷ Mark s.Open ∷ name ∷ Mark s.Close ∷ Key k.If ∷ Mark s.Open ∷ name ∷ Mark s.Close ∷ Mark s.Semicolon ∷ Key k.Else ∷ Mark s.Semicolon ∷ Mark s.BraceClose ∷ []) ∷
    -- void f() { _(assert p \in q->\owns) }
    item 6 (Key k.Void ∷ name ∷ Mark s.Open ∷ Mark s.Close ∷ Mark s.BraceOpen ∷ Mark s.Annotation ∷ Key k.Assert ∷ name ∷ Spec w.In ∷ name ∷ Mark s.Arrow ∷ Spec w.Owns ∷ Mark s.Close ∷ Mark s.BraceClose ∷ []) ∷
    -- void f() { _(assert p \in \forall \object q; q \in a->\owns->\owns) }
    item 9 (Key k.Void ∷ name ∷ Mark s.Open ∷ Mark s.Close ∷ Mark s.BraceOpen ∷ Mark s.Annotation ∷ Key k.Assert ∷ name ∷ Spec w.In ∷ Spec w.Forall ∷ Spec w.Object ∷ name ∷ Mark s.Semicolon ∷ name ∷ Spec w.In ∷ name ∷ Mark s.Arrow ∷ Spec w.Owns ∷ Mark s.Arrow ∷ Spec w.Owns ∷ Mark s.Close ∷ Mark s.BraceClose ∷ []) ∷
    -- void f() { _(assert p \in \exists int i; q \in a->\owns \in b->\owns->\owns) }
    item 10 (Key k.Void ∷ name ∷ Mark s.Open ∷ Mark s.Close ∷ Mark s.BraceOpen ∷ Mark s.Annotation ∷ Key k.Assert ∷ name ∷ Spec w.In ∷ Spec w.Exists ∷ Key k.Int ∷ name ∷ Mark s.Semicolon ∷ name ∷ Spec w.In ∷ name ∷ Mark s.Arrow ∷ Spec w.Owns ∷ Spec w.In ∷ name ∷ Mark s.Arrow ∷ Spec w.Owns ∷ Mark s.Arrow ∷ Spec w.Owns ∷ Mark s.Close ∷ Mark s.BraceClose ∷ []) ∷
    -- void f() { _(assert p \in \forall \object q; q \in (((a)))->\owns && r \in b->\owns && s \in c->\owns->\owns) }
    item 14 (Key k.Void ∷ name ∷ Mark s.Open ∷ Mark s.Close ∷ Mark s.BraceOpen ∷ Mark s.Annotation ∷ Key k.Assert ∷ name ∷ Spec w.In ∷ Spec w.Forall ∷ Spec w.Object ∷ name ∷ Mark s.Semicolon ∷ name ∷ Spec w.In ∷ Mark s.Open ∷ Mark s.Open ∷ Mark s.Open ∷ name ∷ Mark s.Close ∷ Mark s.Close ∷ Mark s.Close ∷ Mark s.Arrow ∷ Spec w.Owns ∷ Mark s.And ∷ name ∷ Spec w.In ∷ name ∷ Mark s.Arrow ∷ Spec w.Owns ∷ Mark s.And ∷ name ∷ Spec w.In ∷ name ∷ Mark s.Arrow ∷ Spec w.Owns ∷ Mark s.Arrow ∷ Spec w.Owns ∷ Mark s.Close ∷ Mark s.BraceClose ∷ []) ∷
    -- void f() { _(assert p \in \forall \object q; q \in (((a)))->\owns ==> r \in b->\owns ==> s \in c->\owns->\owns) }
    item 13 (Key k.Void ∷ name ∷ Mark s.Open ∷ Mark s.Close ∷ Mark s.BraceOpen ∷ Mark s.Annotation ∷ Key k.Assert ∷ name ∷ Spec w.In ∷ Spec w.Forall ∷ Spec w.Object ∷ name ∷ Mark s.Semicolon ∷ name ∷ Spec w.In ∷ Mark s.Open ∷ Mark s.Open ∷ Mark s.Open ∷ name ∷ Mark s.Close ∷ Mark s.Close ∷ Mark s.Close ∷ Mark s.Arrow ∷ Spec w.Owns ∷ Mark s.Implies ∷ name ∷ Spec w.In ∷ name ∷ Mark s.Arrow ∷ Spec w.Owns ∷ Mark s.Implies ∷ name ∷ Spec w.In ∷ name ∷ Mark s.Arrow ∷ Spec w.Owns ∷ Mark s.Arrow ∷ Spec w.Owns ∷ Mark s.Close ∷ Mark s.BraceClose ∷ []) ∷
    -- void f() { _(assert p \in \forall \object q; q->x \in a->\owns && r \in b->\owns ==> s \in c->\owns->\owns) }
    item 11 (Key k.Void ∷ name ∷ Mark s.Open ∷ Mark s.Close ∷ Mark s.BraceOpen ∷ Mark s.Annotation ∷ Key k.Assert ∷ name ∷ Spec w.In ∷ Spec w.Forall ∷ Spec w.Object ∷ name ∷ Mark s.Semicolon ∷ name ∷ Mark s.Arrow ∷ name ∷ Spec w.In ∷ name ∷ Mark s.Arrow ∷ Spec w.Owns ∷ Mark s.And ∷ name ∷ Spec w.In ∷ name ∷ Mark s.Arrow ∷ Spec w.Owns ∷ Mark s.Implies ∷ name ∷ Spec w.In ∷ name ∷ Mark s.Arrow ∷ Spec w.Owns ∷ Mark s.Arrow ∷ Spec w.Owns ∷ Mark s.Close ∷ Mark s.BraceClose ∷ []) ∷
    -- void f() { _(assert p \in \forall \object q; q \in \exists \object r; r \in a->\owns->\owns->\owns) }
    item 12 (Key k.Void ∷ name ∷ Mark s.Open ∷ Mark s.Close ∷ Mark s.BraceOpen ∷ Mark s.Annotation ∷ Key k.Assert ∷ name ∷ Spec w.In ∷ Spec w.Forall ∷ Spec w.Object ∷ name ∷ Mark s.Semicolon ∷ name ∷ Spec w.In ∷ Spec w.Exists ∷ Spec w.Object ∷ name ∷ Mark s.Semicolon ∷ name ∷ Spec w.In ∷ name ∷ Mark s.Arrow ∷ Spec w.Owns ∷ Mark s.Arrow ∷ Spec w.Owns ∷ Mark s.Arrow ∷ Spec w.Owns ∷ Mark s.Close ∷ Mark s.BraceClose ∷ []) ∷
    -- void f() { _(assert p \in \forall \object q; \exists \object r; r \in a->\owns->x \in b->\owns->\owns) }
    item 12 (Key k.Void ∷ name ∷ Mark s.Open ∷ Mark s.Close ∷ Mark s.BraceOpen ∷ Mark s.Annotation ∷ Key k.Assert ∷ name ∷ Spec w.In ∷ Spec w.Forall ∷ Spec w.Object ∷ name ∷ Mark s.Semicolon ∷ Spec w.Exists ∷ Spec w.Object ∷ name ∷ Mark s.Semicolon ∷ name ∷ Spec w.In ∷ name ∷ Mark s.Arrow ∷ Spec w.Owns ∷ Mark s.Arrow ∷ name ∷ Spec w.In ∷ name ∷ Mark s.Arrow ∷ Spec w.Owns ∷ Mark s.Arrow ∷ Spec w.Owns ∷ Mark s.Close ∷ Mark s.BraceClose ∷ []) ∷
    -- void f() { _(assert p \in \forall \object q; q \in a->\owns->\owner->\owns && r) }
    item 11 (Key k.Void ∷ name ∷ Mark s.Open ∷ Mark s.Close ∷ Mark s.BraceOpen ∷ Mark s.Annotation ∷ Key k.Assert ∷ name ∷ Spec w.In ∷ Spec w.Forall ∷ Spec w.Object ∷ name ∷ Mark s.Semicolon ∷ name ∷ Spec w.In ∷ name ∷ Mark s.Arrow ∷ Spec w.Owns ∷ Mark s.Arrow ∷ Spec w.Owner ∷ Mark s.Arrow ∷ Spec w.Owns ∷ Mark s.And ∷ name ∷ Mark s.Close ∷ Mark s.BraceClose ∷ []) ∷
    -- void f() { _(assert \forall \object o; o \in p->\owns ==> \mine(o)) }
    item 8 (Key k.Void ∷ name ∷ Mark s.Open ∷ Mark s.Close ∷ Mark s.BraceOpen ∷ Mark s.Annotation ∷ Key k.Assert ∷ Spec w.Forall ∷ Spec w.Object ∷ name ∷ Mark s.Semicolon ∷ name ∷ Spec w.In ∷ name ∷ Mark s.Arrow ∷ Spec w.Owns ∷ Mark s.Implies ∷ Spec w.Mine ∷ Mark s.Open ∷ name ∷ Mark s.Close ∷ Mark s.Close ∷ Mark s.BraceClose ∷ []) ∷
    -- void f() { _(ghost p->\owns += { q, r }) }
    item 6 (Key k.Void ∷ name ∷ Mark s.Open ∷ Mark s.Close ∷ Mark s.BraceOpen ∷ Mark s.Annotation ∷ Key k.Ghost ∷ name ∷ Mark s.Arrow ∷ Spec w.Owns ∷ Mark s.AddAssign ∷ Mark s.BraceOpen ∷ name ∷ Mark s.Comma ∷ name ∷ Mark s.BraceClose ∷ Mark s.Close ∷ Mark s.BraceClose ∷ []) ∷
    -- void f() { _(ghost c = \make_claim({ p }, p->\closed)) _(ghost \destroy_claim(c, { p })) }
    item 7 (Key k.Void ∷ name ∷ Mark s.Open ∷ Mark s.Close ∷ Mark s.BraceOpen ∷ Mark s.Annotation ∷ Key k.Ghost ∷ name ∷ Mark s.Assign ∷ Spec w.MakeClaim ∷ Mark s.Open ∷ Mark s.BraceOpen ∷ name ∷ Mark s.BraceClose ∷ Mark s.Comma ∷ name ∷ Mark s.Arrow ∷ Spec w.Closed ∷ Mark s.Close ∷ Mark s.Close ∷ Mark s.Annotation ∷ Key k.Ghost ∷ Spec w.DestroyClaim ∷ Mark s.Open ∷ name ∷ Mark s.Comma ∷ Mark s.BraceOpen ∷ name ∷ Mark s.BraceClose ∷ Mark s.Close ∷ Mark s.Close ∷ Mark s.BraceClose ∷ []) ∷
    -- int g(void) { return -1; }
    item 5 (Key k.Int ∷ name ∷ Mark s.Open ∷ Key k.Void ∷ Mark s.Close ∷ Mark s.BraceOpen ∷ Key k.Return ∷ Mark s.Minus ∷ number ∷ Mark s.Semicolon ∷ Mark s.BraceClose ∷ []) ∷
    -- struct T *h() { return NULL; }
    item 4 (Key k.Struct ∷ name ∷ Mark s.Star ∷ name ∷ Mark s.Open ∷ Mark s.Close ∷ Mark s.BraceOpen ∷ Key k.Return ∷ Key k.Null ∷ Mark s.Semicolon ∷ Mark s.BraceClose ∷ []) ∷
    -- unsigned long long f() { }
    item 2 (Key k.Unsigned ∷ Key k.Long ∷ Key k.Long ∷ name ∷ Mark s.Open ∷ Mark s.Close ∷ Mark s.BraceOpen ∷ Mark s.BraceClose ∷ []) ∷
    -- long long int f() { }
    item 2 (Key k.Long ∷ Key k.Long ∷ Key k.Int ∷ name ∷ Mark s.Open ∷ Mark s.Close ∷ Mark s.BraceOpen ∷ Mark s.BraceClose ∷ []) ∷
    -- unsigned int f(unsigned a, long long b) { }
    item 2 (Key k.Unsigned ∷ Key k.Int ∷ name ∷ Mark s.Open ∷ Key k.Unsigned ∷ name ∷ Mark s.Comma ∷ Key k.Long ∷ Key k.Long ∷ name ∷ Mark s.Close ∷ Mark s.BraceOpen ∷ Mark s.BraceClose ∷ []) ∷
    -- void f(struct S *p _(ghost \claim c) _(ghost int x)) { }
    item 2 (Key k.Void ∷ name ∷ Mark s.Open ∷ Key k.Struct ∷ name ∷ Mark s.Star ∷ name ∷ Mark s.Annotation ∷ Key k.Ghost ∷ Spec w.Claim ∷ name ∷ Mark s.Close ∷ Mark s.Annotation ∷ Key k.Ghost ∷ Key k.Int ∷ name ∷ Mark s.Close ∷ Mark s.Close ∷ Mark s.BraceOpen ∷ Mark s.BraceClose ∷ []) ∷
    -- void f() _(writes \span(l), \extent(m), x) { }
    item 4 (Key k.Void ∷ name ∷ Mark s.Open ∷ Mark s.Close ∷ Mark s.Annotation ∷ Key k.Writes ∷ Spec w.Span ∷ Mark s.Open ∷ name ∷ Mark s.Close ∷ Mark s.Comma ∷ Spec w.Extent ∷ Mark s.Open ∷ name ∷ Mark s.Close ∷ Mark s.Comma ∷ name ∷ Mark s.Close ∷ Mark s.BraceOpen ∷ Mark s.BraceClose ∷ []) ∷
    -- void f() _(ensures \old(x) == x) { }
    item 5 (Key k.Void ∷ name ∷ Mark s.Open ∷ Mark s.Close ∷ Mark s.Annotation ∷ Key k.Ensures ∷ Spec w.Old ∷ Mark s.Open ∷ name ∷ Mark s.Close ∷ Mark s.Equal ∷ name ∷ Mark s.Close ∷ Mark s.BraceOpen ∷ Mark s.BraceClose ∷ []) ∷
    -- struct S { struct T *p; volatile unsigned n; _(ghost volatile \claim c) };
    item 2 (Key k.Struct ∷ name ∷ Mark s.BraceOpen ∷ Key k.Struct ∷ name ∷ Mark s.Star ∷ name ∷ Mark s.Semicolon ∷ Key k.Volatile ∷ Key k.Unsigned ∷ name ∷ Mark s.Semicolon ∷ Mark s.Annotation ∷ Key k.Ghost ∷ Key k.Volatile ∷ Spec w.Claim ∷ name ∷ Mark s.Close ∷ Mark s.BraceClose ∷ Mark s.Semicolon ∷ []) ∷
    -- void f() { _(assert a * b + c * d) }
    item 6 (Key k.Void ∷ name ∷ Mark s.Open ∷ Mark s.Close ∷ Mark s.BraceOpen ∷ Mark s.Annotation ∷ Key k.Assert ∷ name ∷ Mark s.Star ∷ name ∷ Mark s.Plus ∷ name ∷ Mark s.Star ∷ name ∷ Mark s.Close ∷ Mark s.BraceClose ∷ []) ∷
    -- void f() { _(assert a + b < c + d) }
    item 6 (Key k.Void ∷ name ∷ Mark s.Open ∷ Mark s.Close ∷ Mark s.BraceOpen ∷ Mark s.Annotation ∷ Key k.Assert ∷ name ∷ Mark s.Plus ∷ name ∷ Mark s.Less ∷ name ∷ Mark s.Plus ∷ name ∷ Mark s.Close ∷ Mark s.BraceClose ∷ []) ∷
    -- void f() { _(assert a < b == c < d) }
    item 6 (Key k.Void ∷ name ∷ Mark s.Open ∷ Mark s.Close ∷ Mark s.BraceOpen ∷ Mark s.Annotation ∷ Key k.Assert ∷ name ∷ Mark s.Less ∷ name ∷ Mark s.Equal ∷ name ∷ Mark s.Less ∷ name ∷ Mark s.Close ∷ Mark s.BraceClose ∷ []) ∷
    -- void f() { _(assert a == b && c == d) }
    item 6 (Key k.Void ∷ name ∷ Mark s.Open ∷ Mark s.Close ∷ Mark s.BraceOpen ∷ Mark s.Annotation ∷ Key k.Assert ∷ name ∷ Mark s.Equal ∷ name ∷ Mark s.And ∷ name ∷ Mark s.Equal ∷ name ∷ Mark s.Close ∷ Mark s.BraceClose ∷ []) ∷
    -- void f() { _(assert a && b || c && d) }
    item 6 (Key k.Void ∷ name ∷ Mark s.Open ∷ Mark s.Close ∷ Mark s.BraceOpen ∷ Mark s.Annotation ∷ Key k.Assert ∷ name ∷ Mark s.And ∷ name ∷ Mark s.Or ∷ name ∷ Mark s.And ∷ name ∷ Mark s.Close ∷ Mark s.BraceClose ∷ []) ∷
    -- void f() { _(assert a || b ? c || d : e || g) }
    item 6 (Key k.Void ∷ name ∷ Mark s.Open ∷ Mark s.Close ∷ Mark s.BraceOpen ∷ Mark s.Annotation ∷ Key k.Assert ∷ name ∷ Mark s.Or ∷ name ∷ Mark s.Question ∷ name ∷ Mark s.Or ∷ name ∷ Mark s.Colon ∷ name ∷ Mark s.Or ∷ name ∷ Mark s.Close ∷ Mark s.BraceClose ∷ []) ∷
    -- void f() { _(assert (a || b ==> c || d) && e) }
    item 8 (Key k.Void ∷ name ∷ Mark s.Open ∷ Mark s.Close ∷ Mark s.BraceOpen ∷ Mark s.Annotation ∷ Key k.Assert ∷ Mark s.Open ∷ name ∷ Mark s.Or ∷ name ∷ Mark s.Implies ∷ name ∷ Mark s.Or ∷ name ∷ Mark s.Close ∷ Mark s.And ∷ name ∷ Mark s.Close ∷ Mark s.BraceClose ∷ []) ∷
    -- void f() { _(assert a ==> b <==> c ==> d) }
    item 6 (Key k.Void ∷ name ∷ Mark s.Open ∷ Mark s.Close ∷ Mark s.BraceOpen ∷ Mark s.Annotation ∷ Key k.Assert ∷ name ∷ Mark s.Implies ∷ name ∷ Mark s.Equivalent ∷ name ∷ Mark s.Implies ∷ name ∷ Mark s.Close ∷ Mark s.BraceClose ∷ []) ∷
    -- void f() { _(assert -a * !b) }
    item 6 (Key k.Void ∷ name ∷ Mark s.Open ∷ Mark s.Close ∷ Mark s.BraceOpen ∷ Mark s.Annotation ∷ Key k.Assert ∷ Mark s.Minus ∷ name ∷ Mark s.Star ∷ Mark s.Not ∷ name ∷ Mark s.Close ∷ Mark s.BraceClose ∷ []) ∷
    -- void f() { _(assert (((a))) - b - c) }
    item 9 (Key k.Void ∷ name ∷ Mark s.Open ∷ Mark s.Close ∷ Mark s.BraceOpen ∷ Mark s.Annotation ∷ Key k.Assert ∷ Mark s.Open ∷ Mark s.Open ∷ Mark s.Open ∷ name ∷ Mark s.Close ∷ Mark s.Close ∷ Mark s.Close ∷ Mark s.Minus ∷ name ∷ Mark s.Minus ∷ name ∷ Mark s.Close ∷ Mark s.BraceClose ∷ []) ∷
    -- void f() { _(assert (((a))) % b / c) }
    item 9 (Key k.Void ∷ name ∷ Mark s.Open ∷ Mark s.Close ∷ Mark s.BraceOpen ∷ Mark s.Annotation ∷ Key k.Assert ∷ Mark s.Open ∷ Mark s.Open ∷ Mark s.Open ∷ name ∷ Mark s.Close ∷ Mark s.Close ∷ Mark s.Close ∷ Mark s.Percent ∷ name ∷ Mark s.Slash ∷ name ∷ Mark s.Close ∷ Mark s.BraceClose ∷ []) ∷
    -- void f() { _(assert (((a))) && b && c) }
    item 9 (Key k.Void ∷ name ∷ Mark s.Open ∷ Mark s.Close ∷ Mark s.BraceOpen ∷ Mark s.Annotation ∷ Key k.Assert ∷ Mark s.Open ∷ Mark s.Open ∷ Mark s.Open ∷ name ∷ Mark s.Close ∷ Mark s.Close ∷ Mark s.Close ∷ Mark s.And ∷ name ∷ Mark s.And ∷ name ∷ Mark s.Close ∷ Mark s.BraceClose ∷ []) ∷
    -- void f() { _(assert (((a))) ==> b ==> c) }
    item 8 (Key k.Void ∷ name ∷ Mark s.Open ∷ Mark s.Close ∷ Mark s.BraceOpen ∷ Mark s.Annotation ∷ Key k.Assert ∷ Mark s.Open ∷ Mark s.Open ∷ Mark s.Open ∷ name ∷ Mark s.Close ∷ Mark s.Close ∷ Mark s.Close ∷ Mark s.Implies ∷ name ∷ Mark s.Implies ∷ name ∷ Mark s.Close ∷ Mark s.BraceClose ∷ []) ∷
    -- void f() { _(assert (((a))) <==> b <==> c) }
    item 9 (Key k.Void ∷ name ∷ Mark s.Open ∷ Mark s.Close ∷ Mark s.BraceOpen ∷ Mark s.Annotation ∷ Key k.Assert ∷ Mark s.Open ∷ Mark s.Open ∷ Mark s.Open ∷ name ∷ Mark s.Close ∷ Mark s.Close ∷ Mark s.Close ∷ Mark s.Equivalent ∷ name ∷ Mark s.Equivalent ∷ name ∷ Mark s.Close ∷ Mark s.BraceClose ∷ []) ∷
    -- void f() { _(assert (((a))) ? b : c ? d : e) }
    item 8 (Key k.Void ∷ name ∷ Mark s.Open ∷ Mark s.Close ∷ Mark s.BraceOpen ∷ Mark s.Annotation ∷ Key k.Assert ∷ Mark s.Open ∷ Mark s.Open ∷ Mark s.Open ∷ name ∷ Mark s.Close ∷ Mark s.Close ∷ Mark s.Close ∷ Mark s.Question ∷ name ∷ Mark s.Colon ∷ name ∷ Mark s.Question ∷ name ∷ Mark s.Colon ∷ name ∷ Mark s.Close ∷ Mark s.BraceClose ∷ []) ∷
    -- void f() { _(assert p->x->\owner->\claim_count > 0) }
    item 8 (Key k.Void ∷ name ∷ Mark s.Open ∷ Mark s.Close ∷ Mark s.BraceOpen ∷ Mark s.Annotation ∷ Key k.Assert ∷ name ∷ Mark s.Arrow ∷ name ∷ Mark s.Arrow ∷ Spec w.Owner ∷ Mark s.Arrow ∷ Spec w.ClaimCount ∷ Mark s.Greater ∷ number ∷ Mark s.Close ∷ Mark s.BraceClose ∷ []) ∷
    -- void f() { _(assert \exists struct S *p; p \in x->\owns && p->y) }
    item 8 (Key k.Void ∷ name ∷ Mark s.Open ∷ Mark s.Close ∷ Mark s.BraceOpen ∷ Mark s.Annotation ∷ Key k.Assert ∷ Spec w.Exists ∷ Key k.Struct ∷ name ∷ Mark s.Star ∷ name ∷ Mark s.Semicolon ∷ name ∷ Spec w.In ∷ name ∷ Mark s.Arrow ∷ Spec w.Owns ∷ Mark s.And ∷ name ∷ Mark s.Arrow ∷ name ∷ Mark s.Close ∷ Mark s.BraceClose ∷ []) ∷
    -- void f() { _(assert \claims(c, \unchanged(p->x) ==> 1) || \wrapped0(c) || \mutable(\this) || \fresh(\me)) }
    item 11 (Key k.Void ∷ name ∷ Mark s.Open ∷ Mark s.Close ∷ Mark s.BraceOpen ∷ Mark s.Annotation ∷ Key k.Assert ∷ Spec w.Claims ∷ Mark s.Open ∷ name ∷ Mark s.Comma ∷ Spec w.Unchanged ∷ Mark s.Open ∷ name ∷ Mark s.Arrow ∷ name ∷ Mark s.Close ∷ Mark s.Implies ∷ number ∷ Mark s.Close ∷ Mark s.Or ∷ Spec w.WrappedUnclaimed ∷ Mark s.Open ∷ name ∷ Mark s.Close ∷ Mark s.Or ∷ Spec w.Mutable ∷ Mark s.Open ∷ Spec w.This ∷ Mark s.Close ∷ Mark s.Or ∷ Spec w.Fresh ∷ Mark s.Open ∷ Spec w.Me ∷ Mark s.Close ∷ Mark s.Close ∷ Mark s.BraceClose ∷ []) ∷
    -- void f() { _(assert \mine(a, b->c)) }
    item 6 (Key k.Void ∷ name ∷ Mark s.Open ∷ Mark s.Close ∷ Mark s.BraceOpen ∷ Mark s.Annotation ∷ Key k.Assert ∷ Spec w.Mine ∷ Mark s.Open ∷ name ∷ Mark s.Comma ∷ name ∷ Mark s.Arrow ∷ name ∷ Mark s.Close ∷ Mark s.Close ∷ Mark s.BraceClose ∷ []) ∷
    -- void f() { _(assert \claims_only(c, o)) }
    item 5 (Key k.Void ∷ name ∷ Mark s.Open ∷ Mark s.Close ∷ Mark s.BraceOpen ∷ Mark s.Annotation ∷ Key k.Assert ∷ Spec w.ClaimsOnly ∷ Mark s.Open ∷ name ∷ Mark s.Comma ∷ name ∷ Mark s.Close ∷ Mark s.Close ∷ Mark s.BraceClose ∷ []) ∷
    -- void f() { _(assert \claims_only(c)) }
    item 5 (Key k.Void ∷ name ∷ Mark s.Open ∷ Mark s.Close ∷ Mark s.BraceOpen ∷ Mark s.Annotation ∷ Key k.Assert ∷ Spec w.ClaimsOnly ∷ Mark s.Open ∷ name ∷ Mark s.Close ∷ Mark s.Close ∷ Mark s.BraceClose ∷ []) ∷
    -- struct S { volatile int a; _(invariant \approves(\this->\owner, a)) };
    item 5 (Key k.Struct ∷ name ∷ Mark s.BraceOpen ∷ Key k.Volatile ∷ Key k.Int ∷ name ∷ Mark s.Semicolon ∷ Mark s.Annotation ∷ Key k.Invariant ∷ Spec w.Approves ∷ Mark s.Open ∷ Spec w.This ∷ Mark s.Arrow ∷ Spec w.Owner ∷ Mark s.Comma ∷ name ∷ Mark s.Close ∷ Mark s.Close ∷ Mark s.BraceClose ∷ Mark s.Semicolon ∷ []) ∷
    -- struct S { volatile int a; _(invariant a && \approves(\this->\owner, a)) };
    item 6 (Key k.Struct ∷ name ∷ Mark s.BraceOpen ∷ Key k.Volatile ∷ Key k.Int ∷ name ∷ Mark s.Semicolon ∷ Mark s.Annotation ∷ Key k.Invariant ∷ name ∷ Mark s.And ∷ Spec w.Approves ∷ Mark s.Open ∷ Spec w.This ∷ Mark s.Arrow ∷ Spec w.Owner ∷ Mark s.Comma ∷ name ∷ Mark s.Close ∷ Mark s.Close ∷ Mark s.BraceClose ∷ Mark s.Semicolon ∷ []) ∷
    -- void f() { _(assert \true <= \false) }
    item 5 (Key k.Void ∷ name ∷ Mark s.Open ∷ Mark s.Close ∷ Mark s.BraceOpen ∷ Mark s.Annotation ∷ Key k.Assert ∷ Spec w.True ∷ Mark s.LessEqual ∷ Spec w.False ∷ Mark s.Close ∷ Mark s.BraceClose ∷ []) ∷
    -- void f() { do ; while (1); }
    item 4 (Key k.Void ∷ name ∷ Mark s.Open ∷ Mark s.Close ∷ Mark s.BraceOpen ∷ Key k.Do ∷ Mark s.Semicolon ∷ Key k.While ∷ Mark s.Open ∷ number ∷ Mark s.Close ∷ Mark s.Semicolon ∷ Mark s.BraceClose ∷ []) ∷
    -- void f() { do _(invariant 1) ; while (1); }
    item 5 (Key k.Void ∷ name ∷ Mark s.Open ∷ Mark s.Close ∷ Mark s.BraceOpen ∷ Key k.Do ∷ Mark s.Annotation ∷ Key k.Invariant ∷ number ∷ Mark s.Close ∷ Mark s.Semicolon ∷ Key k.While ∷ Mark s.Open ∷ number ∷ Mark s.Close ∷ Mark s.Semicolon ∷ Mark s.BraceClose ∷ []) ∷
    -- void f() { for (i = 0; i < 9; i++) _(invariant i <= 9) { } }
    item 6 (Key k.Void ∷ name ∷ Mark s.Open ∷ Mark s.Close ∷ Mark s.BraceOpen ∷ Key k.For ∷ Mark s.Open ∷ name ∷ Mark s.Assign ∷ number ∷ Mark s.Semicolon ∷ name ∷ Mark s.Less ∷ number ∷ Mark s.Semicolon ∷ name ∷ Mark s.Increment ∷ Mark s.Close ∷ Mark s.Annotation ∷ Key k.Invariant ∷ name ∷ Mark s.LessEqual ∷ number ∷ Mark s.Close ∷ Mark s.BraceOpen ∷ Mark s.BraceClose ∷ Mark s.BraceClose ∷ []) ∷
    -- void f() { x += 1; }
    item 4 (Key k.Void ∷ name ∷ Mark s.Open ∷ Mark s.Close ∷ Mark s.BraceOpen ∷ name ∷ Mark s.AddAssign ∷ number ∷ Mark s.Semicolon ∷ Mark s.BraceClose ∷ []) ∷
    -- void f() { x--; }
    item 4 (Key k.Void ∷ name ∷ Mark s.Open ∷ Mark s.Close ∷ Mark s.BraceOpen ∷ name ∷ Mark s.Decrement ∷ Mark s.Semicolon ∷ Mark s.BraceClose ∷ []) ∷
    -- void f() { p->x -= y; }
    item 5 (Key k.Void ∷ name ∷ Mark s.Open ∷ Mark s.Close ∷ Mark s.BraceOpen ∷ name ∷ Mark s.Arrow ∷ name ∷ Mark s.SubtractAssign ∷ name ∷ Mark s.Semicolon ∷ Mark s.BraceClose ∷ []) ∷
    -- void f() { x = f(y, z _(ghost c)); }
    item 5 (Key k.Void ∷ name ∷ Mark s.Open ∷ Mark s.Close ∷ Mark s.BraceOpen ∷ name ∷ Mark s.Assign ∷ name ∷ Mark s.Open ∷ name ∷ Mark s.Comma ∷ name ∷ Mark s.Annotation ∷ Key k.Ghost ∷ name ∷ Mark s.Close ∷ Mark s.Close ∷ Mark s.Semicolon ∷ Mark s.BraceClose ∷ []) ∷
    -- void f() { int x = f(); }
    item 4 (Key k.Void ∷ name ∷ Mark s.Open ∷ Mark s.Close ∷ Mark s.BraceOpen ∷ Key k.Int ∷ name ∷ Mark s.Assign ∷ name ∷ Mark s.Open ∷ Mark s.Close ∷ Mark s.Semicolon ∷ Mark s.BraceClose ∷ []) ∷
    -- void f() { free(p); }
    item 4 (Key k.Void ∷ name ∷ Mark s.Open ∷ Mark s.Close ∷ Mark s.BraceOpen ∷ Key k.Free ∷ Mark s.Open ∷ name ∷ Mark s.Close ∷ Mark s.Semicolon ∷ Mark s.BraceClose ∷ []) ∷
    -- void f() { return; }
    item 3 (Key k.Void ∷ name ∷ Mark s.Open ∷ Mark s.Close ∷ Mark s.BraceOpen ∷ Key k.Return ∷ Mark s.Semicolon ∷ Mark s.BraceClose ∷ []) ∷
    -- void f() { _(wrap p) }
    item 4 (Key k.Void ∷ name ∷ Mark s.Open ∷ Mark s.Close ∷ Mark s.BraceOpen ∷ Mark s.Annotation ∷ Key k.Wrap ∷ name ∷ Mark s.Close ∷ Mark s.BraceClose ∷ []) ∷
    -- void f() { _(unwrapping p) { } }
    item 4 (Key k.Void ∷ name ∷ Mark s.Open ∷ Mark s.Close ∷ Mark s.BraceOpen ∷ Mark s.Annotation ∷ Key k.Unwrapping ∷ name ∷ Mark s.Close ∷ Mark s.BraceOpen ∷ Mark s.BraceClose ∷ Mark s.BraceClose ∷ []) ∷
    -- void f() { _(ghost \claim c;) }
    item 5 (Key k.Void ∷ name ∷ Mark s.Open ∷ Mark s.Close ∷ Mark s.BraceOpen ∷ Mark s.Annotation ∷ Key k.Ghost ∷ Spec w.Claim ∷ name ∷ Mark s.Semicolon ∷ Mark s.Close ∷ Mark s.BraceClose ∷ []) ∷
    -- void f() { _(ghost _(wrap p);) }
    item 5 (Key k.Void ∷ name ∷ Mark s.Open ∷ Mark s.Close ∷ Mark s.BraceOpen ∷ Mark s.Annotation ∷ Key k.Ghost ∷ Mark s.Annotation ∷ Key k.Wrap ∷ name ∷ Mark s.Close ∷ Mark s.Semicolon ∷ Mark s.Close ∷ Mark s.BraceClose ∷ []) ∷
    -- void f() { _(ghost if (a) x = 1; else x = 2;) }
    item 6 (Key k.Void ∷ name ∷ Mark s.Open ∷ Mark s.Close ∷ Mark s.BraceOpen ∷ Mark s.Annotation ∷ Key k.Ghost ∷ Key k.If ∷ Mark s.Open ∷ name ∷ Mark s.Close ∷ name ∷ Mark s.Assign ∷ number ∷ Mark s.Semicolon ∷ Key k.Else ∷ name ∷ Mark s.Assign ∷ number ∷ Mark s.Semicolon ∷ Mark s.Close ∷ Mark s.BraceClose ∷ []) ∷
    -- void f() { _(ghost p->\owns = { };) }
    item 6 (Key k.Void ∷ name ∷ Mark s.Open ∷ Mark s.Close ∷ Mark s.BraceOpen ∷ Mark s.Annotation ∷ Key k.Ghost ∷ name ∷ Mark s.Arrow ∷ Spec w.Owns ∷ Mark s.Assign ∷ Mark s.BraceOpen ∷ Mark s.BraceClose ∷ Mark s.Semicolon ∷ Mark s.Close ∷ Mark s.BraceClose ∷ []) ∷
    -- void f() { _(ghost (p)->q->\owns -= q) }
    item 8 (Key k.Void ∷ name ∷ Mark s.Open ∷ Mark s.Close ∷ Mark s.BraceOpen ∷ Mark s.Annotation ∷ Key k.Ghost ∷ Mark s.Open ∷ name ∷ Mark s.Close ∷ Mark s.Arrow ∷ name ∷ Mark s.Arrow ∷ Spec w.Owns ∷ Mark s.SubtractAssign ∷ name ∷ Mark s.Close ∷ Mark s.BraceClose ∷ []) ∷
    -- void f() { x = InterlockedCompareExchange(&p->f, 1, 0) != 2; }
    item 7 (Key k.Void ∷ name ∷ Mark s.Open ∷ Mark s.Close ∷ Mark s.BraceOpen ∷ name ∷ Mark s.Assign ∷ Key k.CompareExchange ∷ Mark s.Open ∷ Mark s.Ampersand ∷ name ∷ Mark s.Arrow ∷ name ∷ Mark s.Comma ∷ number ∷ Mark s.Comma ∷ number ∷ Mark s.Close ∷ Mark s.NotEqual ∷ number ∷ Mark s.Semicolon ∷ Mark s.BraceClose ∷ []) ∷
    -- void f() { x = InterlockedIncrement(&p->n); }
    item 6 (Key k.Void ∷ name ∷ Mark s.Open ∷ Mark s.Close ∷ Mark s.BraceOpen ∷ name ∷ Mark s.Assign ∷ Key k.Increment ∷ Mark s.Open ∷ Mark s.Ampersand ∷ name ∷ Mark s.Arrow ∷ name ∷ Mark s.Close ∷ Mark s.Semicolon ∷ Mark s.BraceClose ∷ []) ∷
    -- void f() { (a)->b = 1; }
    item 6 (Key k.Void ∷ name ∷ Mark s.Open ∷ Mark s.Close ∷ Mark s.BraceOpen ∷ Mark s.Open ∷ name ∷ Mark s.Close ∷ Mark s.Arrow ∷ name ∷ Mark s.Assign ∷ number ∷ Mark s.Semicolon ∷ Mark s.BraceClose ∷ []) ∷
    -- void f() { p = malloc(sizeof(struct S)); }
    item 5 (Key k.Void ∷ name ∷ Mark s.Open ∷ Mark s.Close ∷ Mark s.BraceOpen ∷ name ∷ Mark s.Assign ∷ Key k.Malloc ∷ Mark s.Open ∷ Key k.Sizeof ∷ Mark s.Open ∷ Key k.Struct ∷ name ∷ Mark s.Close ∷ Mark s.Close ∷ Mark s.Semicolon ∷ Mark s.BraceClose ∷ []) ∷
    -- void f() { _(assert a ==> b ? c : (((d)))) }
    item 9 (Key k.Void ∷ name ∷ Mark s.Open ∷ Mark s.Close ∷ Mark s.BraceOpen ∷ Mark s.Annotation ∷ Key k.Assert ∷ name ∷ Mark s.Implies ∷ name ∷ Mark s.Question ∷ name ∷ Mark s.Colon ∷ Mark s.Open ∷ Mark s.Open ∷ Mark s.Open ∷ name ∷ Mark s.Close ∷ Mark s.Close ∷ Mark s.Close ∷ Mark s.Close ∷ Mark s.BraceClose ∷ []) ∷
    -- void f() { _(assert (((a))) ? b : c ==> d) }
    item 9 (Key k.Void ∷ name ∷ Mark s.Open ∷ Mark s.Close ∷ Mark s.BraceOpen ∷ Mark s.Annotation ∷ Key k.Assert ∷ Mark s.Open ∷ Mark s.Open ∷ Mark s.Open ∷ name ∷ Mark s.Close ∷ Mark s.Close ∷ Mark s.Close ∷ Mark s.Question ∷ name ∷ Mark s.Colon ∷ name ∷ Mark s.Implies ∷ name ∷ Mark s.Close ∷ Mark s.BraceClose ∷ []) ∷
    -- void f() { _(assert a && \forall \claim c; c || (((b)))) }
    item 10 (Key k.Void ∷ name ∷ Mark s.Open ∷ Mark s.Close ∷ Mark s.BraceOpen ∷ Mark s.Annotation ∷ Key k.Assert ∷ name ∷ Mark s.And ∷ Spec w.Forall ∷ Spec w.Claim ∷ name ∷ Mark s.Semicolon ∷ name ∷ Mark s.Or ∷ Mark s.Open ∷ Mark s.Open ∷ Mark s.Open ∷ name ∷ Mark s.Close ∷ Mark s.Close ∷ Mark s.Close ∷ Mark s.Close ∷ Mark s.BraceClose ∷ []) ∷
    -- void f() { if (a) if (b) ; else { { { } } } }
    item 7 (Key k.Void ∷ name ∷ Mark s.Open ∷ Mark s.Close ∷ Mark s.BraceOpen ∷ Key k.If ∷ Mark s.Open ∷ name ∷ Mark s.Close ∷ Key k.If ∷ Mark s.Open ∷ name ∷ Mark s.Close ∷ Mark s.Semicolon ∷ Key k.Else ∷ Mark s.BraceOpen ∷ Mark s.BraceOpen ∷ Mark s.BraceOpen ∷ Mark s.BraceClose ∷ Mark s.BraceClose ∷ Mark s.BraceClose ∷ Mark s.BraceClose ∷ []) ∷
    []

abbrev faults : List Bool
faults =
    -- void f() { _(assert \claims_only(^)) }
    unexpected (Key k.Void ∷ name ∷ Mark s.Open ∷ Mark s.Close ∷ Mark s.BraceOpen ∷ Mark s.Annotation ∷ Key k.Assert ∷ Spec w.ClaimsOnly ∷ Mark s.Open ∷ []) (Mark s.Close ∷ Mark s.Close ∷ Mark s.BraceClose ∷ []) ∷
    -- struct S { volatile int a; _(invariant \approves(^a)) };
    unexpected (Key k.Struct ∷ name ∷ Mark s.BraceOpen ∷ Key k.Volatile ∷ Key k.Int ∷ name ∷ Mark s.Semicolon ∷ Mark s.Annotation ∷ Key k.Invariant ∷ Spec w.Approves ∷ Mark s.Open ∷ []) (name ∷ Mark s.Close ∷ Mark s.Close ∷ Mark s.BraceClose ∷ []) ∷
    -- struct S { volatile int a; _(invariant \approves(\this->^a, a)) };
    unexpected (Key k.Struct ∷ name ∷ Mark s.BraceOpen ∷ Key k.Volatile ∷ Key k.Int ∷ name ∷ Mark s.Semicolon ∷ Mark s.Annotation ∷ Key k.Invariant ∷ Spec w.Approves ∷ Mark s.Open ∷ Spec w.This ∷ Mark s.Arrow ∷ []) (name ∷ Mark s.Comma ∷ name ∷ Mark s.Close ∷ Mark s.Close ∷ Mark s.BraceClose ∷ []) ∷
    -- struct S { volatile int a; _(invariant \approves(\this->\owner^)) };
    unexpected (Key k.Struct ∷ name ∷ Mark s.BraceOpen ∷ Key k.Volatile ∷ Key k.Int ∷ name ∷ Mark s.Semicolon ∷ Mark s.Annotation ∷ Key k.Invariant ∷ Spec w.Approves ∷ Mark s.Open ∷ Spec w.This ∷ Mark s.Arrow ∷ Spec w.Owner ∷ []) (Mark s.Close ∷ Mark s.Close ∷ Mark s.BraceClose ∷ []) ∷
    -- void f() { a ^+ b->x = 1; }
    unexpected (Key k.Void ∷ name ∷ Mark s.Open ∷ Mark s.Close ∷ Mark s.BraceOpen ∷ name ∷ []) (Mark s.Plus ∷ name ∷ Mark s.Arrow ∷ name ∷ Mark s.Assign ∷ number ∷ Mark s.Semicolon ∷ Mark s.BraceClose ∷ []) ∷
    -- void f() { 5 ^+ 1; }
    unexpected (Key k.Void ∷ name ∷ Mark s.Open ∷ Mark s.Close ∷ Mark s.BraceOpen ∷ number ∷ []) (Mark s.Plus ∷ number ∷ Mark s.Semicolon ∷ Mark s.BraceClose ∷ []) ∷
    -- void f() { 5^; }
    unexpected (Key k.Void ∷ name ∷ Mark s.Open ∷ Mark s.Close ∷ Mark s.BraceOpen ∷ number ∷ []) (Mark s.Semicolon ∷ Mark s.BraceClose ∷ []) ∷
    -- void f() { ^!p->x = 1; }
    unexpected (Key k.Void ∷ name ∷ Mark s.Open ∷ Mark s.Close ∷ Mark s.BraceOpen ∷ []) (Mark s.Not ∷ name ∷ Mark s.Arrow ∷ name ∷ Mark s.Assign ∷ number ∷ Mark s.Semicolon ∷ Mark s.BraceClose ∷ []) ∷
    -- void f() { _(assert \wrapped(a ^==> b)) }
    unexpected (Key k.Void ∷ name ∷ Mark s.Open ∷ Mark s.Close ∷ Mark s.BraceOpen ∷ Mark s.Annotation ∷ Key k.Assert ∷ Spec w.Wrapped ∷ Mark s.Open ∷ name ∷ []) (Mark s.Implies ∷ name ∷ Mark s.Close ∷ Mark s.Close ∷ Mark s.BraceClose ∷ []) ∷
    -- void f() { _(assert a ? b ^==> c : d) }
    unexpected (Key k.Void ∷ name ∷ Mark s.Open ∷ Mark s.Close ∷ Mark s.BraceOpen ∷ Mark s.Annotation ∷ Key k.Assert ∷ name ∷ Mark s.Question ∷ name ∷ []) (Mark s.Implies ∷ name ∷ Mark s.Colon ∷ name ∷ Mark s.Close ∷ Mark s.BraceClose ∷ []) ∷
    -- void f() { _(wrap ^\this) }
    unexpected (Key k.Void ∷ name ∷ Mark s.Open ∷ Mark s.Close ∷ Mark s.BraceOpen ∷ Mark s.Annotation ∷ Key k.Wrap ∷ []) (Spec w.This ∷ Mark s.Close ∷ Mark s.BraceClose ∷ []) ∷
    -- void f() { x = ^\me; }
    unexpected (Key k.Void ∷ name ∷ Mark s.Open ∷ Mark s.Close ∷ Mark s.BraceOpen ∷ name ∷ Mark s.Assign ∷ []) (Spec w.Me ∷ Mark s.Semicolon ∷ Mark s.BraceClose ∷ []) ∷
    -- void f() { vcc_spawn(f ^_(ghost c)); }
    unexpected (Key k.Void ∷ name ∷ Mark s.Open ∷ Mark s.Close ∷ Mark s.BraceOpen ∷ Key k.VccSpawn ∷ Mark s.Open ∷ name ∷ []) (Mark s.Annotation ∷ Key k.Ghost ∷ name ∷ Mark s.Close ∷ Mark s.Close ∷ Mark s.Semicolon ∷ Mark s.BraceClose ∷ []) ∷
    -- void f() { _(ghost if (a) if (b) x = 1;;;^;) }
    unexpected (Key k.Void ∷ name ∷ Mark s.Open ∷ Mark s.Close ∷ Mark s.BraceOpen ∷ Mark s.Annotation ∷ Key k.Ghost ∷ Key k.If ∷ Mark s.Open ∷ name ∷ Mark s.Close ∷ Key k.If ∷ Mark s.Open ∷ name ∷ Mark s.Close ∷ name ∷ Mark s.Assign ∷ number ∷ Mark s.Semicolon ∷ Mark s.Semicolon ∷ Mark s.Semicolon ∷ []) (Mark s.Semicolon ∷ Mark s.Close ∷ Mark s.BraceClose ∷ []) ∷
    -- void f() { _(ghost if (a) { } ; ^else x = 1) }
    unexpected (Key k.Void ∷ name ∷ Mark s.Open ∷ Mark s.Close ∷ Mark s.BraceOpen ∷ Mark s.Annotation ∷ Key k.Ghost ∷ Key k.If ∷ Mark s.Open ∷ name ∷ Mark s.Close ∷ Mark s.BraceOpen ∷ Mark s.BraceClose ∷ Mark s.Semicolon ∷ []) (Key k.Else ∷ name ∷ Mark s.Assign ∷ number ∷ Mark s.Close ∷ Mark s.BraceClose ∷ []) ∷
    -- void f() { _(^requires 1) }
    unexpected (Key k.Void ∷ name ∷ Mark s.Open ∷ Mark s.Close ∷ Mark s.BraceOpen ∷ Mark s.Annotation ∷ []) (Key k.Requires ∷ number ∷ Mark s.Close ∷ Mark s.BraceClose ∷ []) ∷
    -- void f() { _(^\true) }
    unexpected (Key k.Void ∷ name ∷ Mark s.Open ∷ Mark s.Close ∷ Mark s.BraceOpen ∷ Mark s.Annotation ∷ []) (Spec w.True ∷ Mark s.Close ∷ Mark s.BraceClose ∷ []) ∷
    -- void f() { x = 1 ^_(assert 1); }
    unexpected (Key k.Void ∷ name ∷ Mark s.Open ∷ Mark s.Close ∷ Mark s.BraceOpen ∷ name ∷ Mark s.Assign ∷ number ∷ []) (Mark s.Annotation ∷ Key k.Assert ∷ number ∷ Mark s.Close ∷ Mark s.Semicolon ∷ Mark s.BraceClose ∷ []) ∷
    -- _(claimable, ^foo) struct S { };
    unexpected (Mark s.Annotation ∷ Key k.Claimable ∷ Mark s.Comma ∷ []) (name ∷ Mark s.Close ∷ Key k.Struct ∷ name ∷ Mark s.BraceOpen ∷ Mark s.BraceClose ∷ Mark s.Semicolon ∷ []) ∷
    -- void f() { ^
    unexpected (Key k.Void ∷ name ∷ Mark s.Open ∷ Mark s.Close ∷ Mark s.BraceOpen ∷ []) ([]) ∷
    -- void f() { } ^1
    unexpected (Key k.Void ∷ name ∷ Mark s.Open ∷ Mark s.Close ∷ Mark s.BraceOpen ∷ Mark s.BraceClose ∷ []) (number ∷ []) ∷
    -- struct S ^;
    unexpected (Key k.Struct ∷ name ∷ []) (Mark s.Semicolon ∷ []) ∷
    -- void ^wrap() { }
    unexpected (Key k.Void ∷ []) (Key k.Wrap ∷ Mark s.Open ∷ Mark s.Close ∷ Mark s.BraceOpen ∷ Mark s.BraceClose ∷ []) ∷
    -- void f() { f(^, a); }
    unexpected (Key k.Void ∷ name ∷ Mark s.Open ∷ Mark s.Close ∷ Mark s.BraceOpen ∷ name ∷ Mark s.Open ∷ []) (Mark s.Comma ∷ name ∷ Mark s.Close ∷ Mark s.Semicolon ∷ Mark s.BraceClose ∷ []) ∷
    -- void f() { int ^}
    unexpected (Key k.Void ∷ name ∷ Mark s.Open ∷ Mark s.Close ∷ Mark s.BraceOpen ∷ Key k.Int ∷ []) (Mark s.BraceClose ∷ []) ∷
    -- void f(void^, int a) { }
    unexpected (Key k.Void ∷ name ∷ Mark s.Open ∷ Key k.Void ∷ []) (Mark s.Comma ∷ Key k.Int ∷ name ∷ Mark s.Close ∷ Mark s.BraceOpen ∷ Mark s.BraceClose ∷ []) ∷
    -- void f() { return 1 ^ }
    unexpected (Key k.Void ∷ name ∷ Mark s.Open ∷ Mark s.Close ∷ Mark s.BraceOpen ∷ Key k.Return ∷ number ∷ []) (Mark s.BraceClose ∷ []) ∷
    -- void f() { if ^a ; }
    unexpected (Key k.Void ∷ name ∷ Mark s.Open ∷ Mark s.Close ∷ Mark s.BraceOpen ∷ Key k.If ∷ []) (name ∷ Mark s.Semicolon ∷ Mark s.BraceClose ∷ []) ∷
    -- void f() { if (a ^; }
    unexpected (Key k.Void ∷ name ∷ Mark s.Open ∷ Mark s.Close ∷ Mark s.BraceOpen ∷ Key k.If ∷ Mark s.Open ∷ name ∷ []) (Mark s.Semicolon ∷ Mark s.BraceClose ∷ []) ∷
    -- void f() { while (1) ^ }
    unexpected (Key k.Void ∷ name ∷ Mark s.Open ∷ Mark s.Close ∷ Mark s.BraceOpen ∷ Key k.While ∷ Mark s.Open ∷ number ∷ Mark s.Close ∷ []) (Mark s.BraceClose ∷ []) ∷
    -- void f() { do ; ^ }
    unexpected (Key k.Void ∷ name ∷ Mark s.Open ∷ Mark s.Close ∷ Mark s.BraceOpen ∷ Key k.Do ∷ Mark s.Semicolon ∷ []) (Mark s.BraceClose ∷ []) ∷
    -- void f() { do ; while (1) ^ }
    unexpected (Key k.Void ∷ name ∷ Mark s.Open ∷ Mark s.Close ∷ Mark s.BraceOpen ∷ Key k.Do ∷ Mark s.Semicolon ∷ Key k.While ∷ Mark s.Open ∷ number ∷ Mark s.Close ∷ []) (Mark s.BraceClose ∷ []) ∷
    -- void f() { for (^int i = 0; 1; ) ; }
    unexpected (Key k.Void ∷ name ∷ Mark s.Open ∷ Mark s.Close ∷ Mark s.BraceOpen ∷ Key k.For ∷ Mark s.Open ∷ []) (Key k.Int ∷ name ∷ Mark s.Assign ∷ number ∷ Mark s.Semicolon ∷ number ∷ Mark s.Semicolon ∷ Mark s.Close ∷ Mark s.Semicolon ∷ Mark s.BraceClose ∷ []) ∷
    -- void f() { for (i = 0; ^; ) ; }
    unexpected (Key k.Void ∷ name ∷ Mark s.Open ∷ Mark s.Close ∷ Mark s.BraceOpen ∷ Key k.For ∷ Mark s.Open ∷ name ∷ Mark s.Assign ∷ number ∷ Mark s.Semicolon ∷ []) (Mark s.Semicolon ∷ Mark s.Close ∷ Mark s.Semicolon ∷ Mark s.BraceClose ∷ []) ∷
    -- void f() { x = ^; }
    unexpected (Key k.Void ∷ name ∷ Mark s.Open ∷ Mark s.Close ∷ Mark s.BraceOpen ∷ name ∷ Mark s.Assign ∷ []) (Mark s.Semicolon ∷ Mark s.BraceClose ∷ []) ∷
    -- void f() { x ^y; }
    unexpected (Key k.Void ∷ name ∷ Mark s.Open ∷ Mark s.Close ∷ Mark s.BraceOpen ∷ name ∷ []) (name ∷ Mark s.Semicolon ∷ Mark s.BraceClose ∷ []) ∷
    -- void f() { f(a ^b); }
    unexpected (Key k.Void ∷ name ∷ Mark s.Open ∷ Mark s.Close ∷ Mark s.BraceOpen ∷ name ∷ Mark s.Open ∷ name ∷ []) (name ∷ Mark s.Close ∷ Mark s.Semicolon ∷ Mark s.BraceClose ∷ []) ∷
    -- void f() { f(a,^); }
    unexpected (Key k.Void ∷ name ∷ Mark s.Open ∷ Mark s.Close ∷ Mark s.BraceOpen ∷ name ∷ Mark s.Open ∷ name ∷ Mark s.Comma ∷ []) (Mark s.Close ∷ Mark s.Semicolon ∷ Mark s.BraceClose ∷ []) ∷
    -- void f() { vcc_spawn(^); }
    unexpected (Key k.Void ∷ name ∷ Mark s.Open ∷ Mark s.Close ∷ Mark s.BraceOpen ∷ Key k.VccSpawn ∷ Mark s.Open ∷ []) (Mark s.Close ∷ Mark s.Semicolon ∷ Mark s.BraceClose ∷ []) ∷
    -- void f() { free ^p; }
    unexpected (Key k.Void ∷ name ∷ Mark s.Open ∷ Mark s.Close ∷ Mark s.BraceOpen ∷ Key k.Free ∷ []) (name ∷ Mark s.Semicolon ∷ Mark s.BraceClose ∷ []) ∷
    -- void f() { p = malloc(^4); }
    unexpected (Key k.Void ∷ name ∷ Mark s.Open ∷ Mark s.Close ∷ Mark s.BraceOpen ∷ name ∷ Mark s.Assign ∷ Key k.Malloc ∷ Mark s.Open ∷ []) (number ∷ Mark s.Close ∷ Mark s.Semicolon ∷ Mark s.BraceClose ∷ []) ∷
    -- void f() { p = malloc(sizeof(struct ^4)); }
    unexpected (Key k.Void ∷ name ∷ Mark s.Open ∷ Mark s.Close ∷ Mark s.BraceOpen ∷ name ∷ Mark s.Assign ∷ Key k.Malloc ∷ Mark s.Open ∷ Key k.Sizeof ∷ Mark s.Open ∷ Key k.Struct ∷ []) (number ∷ Mark s.Close ∷ Mark s.Close ∷ Mark s.Semicolon ∷ Mark s.BraceClose ∷ []) ∷
    -- void f() { p = (struct S *) ^q; }
    unexpected (Key k.Void ∷ name ∷ Mark s.Open ∷ Mark s.Close ∷ Mark s.BraceOpen ∷ name ∷ Mark s.Assign ∷ Mark s.Open ∷ Key k.Struct ∷ name ∷ Mark s.Star ∷ Mark s.Close ∷ []) (name ∷ Mark s.Semicolon ∷ Mark s.BraceClose ∷ []) ∷
    -- void f() { x = InterlockedExchange(^p->f, 1); }
    unexpected (Key k.Void ∷ name ∷ Mark s.Open ∷ Mark s.Close ∷ Mark s.BraceOpen ∷ name ∷ Mark s.Assign ∷ Key k.Exchange ∷ Mark s.Open ∷ []) (name ∷ Mark s.Arrow ∷ name ∷ Mark s.Comma ∷ number ∷ Mark s.Close ∷ Mark s.Semicolon ∷ Mark s.BraceClose ∷ []) ∷
    -- void f() { x = InterlockedExchange(&p^, 1); }
    unexpected (Key k.Void ∷ name ∷ Mark s.Open ∷ Mark s.Close ∷ Mark s.BraceOpen ∷ name ∷ Mark s.Assign ∷ Key k.Exchange ∷ Mark s.Open ∷ Mark s.Ampersand ∷ name ∷ []) (Mark s.Comma ∷ number ∷ Mark s.Close ∷ Mark s.Semicolon ∷ Mark s.BraceClose ∷ []) ∷
    -- void f() { ^InterlockedIncrement(&p->n); }
    unexpected (Key k.Void ∷ name ∷ Mark s.Open ∷ Mark s.Close ∷ Mark s.BraceOpen ∷ []) (Key k.Increment ∷ Mark s.Open ∷ Mark s.Ampersand ∷ name ∷ Mark s.Arrow ∷ name ∷ Mark s.Close ∷ Mark s.Semicolon ∷ Mark s.BraceClose ∷ []) ∷
    -- void f() { _(unwrapping p) ^; }
    unexpected (Key k.Void ∷ name ∷ Mark s.Open ∷ Mark s.Close ∷ Mark s.BraceOpen ∷ Mark s.Annotation ∷ Key k.Unwrapping ∷ name ∷ Mark s.Close ∷ []) (Mark s.Semicolon ∷ Mark s.BraceClose ∷ []) ∷
    -- void f() { _(atomic ^) { } }
    unexpected (Key k.Void ∷ name ∷ Mark s.Open ∷ Mark s.Close ∷ Mark s.BraceOpen ∷ Mark s.Annotation ∷ Key k.Atomic ∷ []) (Mark s.Close ∷ Mark s.BraceOpen ∷ Mark s.BraceClose ∷ Mark s.BraceClose ∷ []) ∷
    -- void f() { _(ghost ^) }
    unexpected (Key k.Void ∷ name ∷ Mark s.Open ∷ Mark s.Close ∷ Mark s.BraceOpen ∷ Mark s.Annotation ∷ Key k.Ghost ∷ []) (Mark s.Close ∷ Mark s.BraceClose ∷ []) ∷
    -- void f() { _(ghost p->\owns ^; ) }
    unexpected (Key k.Void ∷ name ∷ Mark s.Open ∷ Mark s.Close ∷ Mark s.BraceOpen ∷ Mark s.Annotation ∷ Key k.Ghost ∷ name ∷ Mark s.Arrow ∷ Spec w.Owns ∷ []) (Mark s.Semicolon ∷ Mark s.Close ∷ Mark s.BraceClose ∷ []) ∷
    -- void f() { _(ghost \destroy_claim(c, ^p)) }
    unexpected (Key k.Void ∷ name ∷ Mark s.Open ∷ Mark s.Close ∷ Mark s.BraceOpen ∷ Mark s.Annotation ∷ Key k.Ghost ∷ Spec w.DestroyClaim ∷ Mark s.Open ∷ name ∷ Mark s.Comma ∷ []) (name ∷ Mark s.Close ∷ Mark s.Close ∷ Mark s.BraceClose ∷ []) ∷
    -- void f() { _(ghost c = \make_claim(^p, 1)) }
    unexpected (Key k.Void ∷ name ∷ Mark s.Open ∷ Mark s.Close ∷ Mark s.BraceOpen ∷ Mark s.Annotation ∷ Key k.Ghost ∷ name ∷ Mark s.Assign ∷ Spec w.MakeClaim ∷ Mark s.Open ∷ []) (name ∷ Mark s.Comma ∷ number ∷ Mark s.Close ∷ Mark s.Close ∷ Mark s.BraceClose ∷ []) ∷
    -- void f() { _(ghost c = \make_claim({ p }^)) }
    unexpected (Key k.Void ∷ name ∷ Mark s.Open ∷ Mark s.Close ∷ Mark s.BraceOpen ∷ Mark s.Annotation ∷ Key k.Ghost ∷ name ∷ Mark s.Assign ∷ Spec w.MakeClaim ∷ Mark s.Open ∷ Mark s.BraceOpen ∷ name ∷ Mark s.BraceClose ∷ []) (Mark s.Close ∷ Mark s.Close ∷ Mark s.BraceClose ∷ []) ∷
    -- void f() { ^else ; }
    unexpected (Key k.Void ∷ name ∷ Mark s.Open ∷ Mark s.Close ∷ Mark s.BraceOpen ∷ []) (Key k.Else ∷ Mark s.Semicolon ∷ Mark s.BraceClose ∷ []) ∷
    -- void f() { if (a) ; else ^ }
    unexpected (Key k.Void ∷ name ∷ Mark s.Open ∷ Mark s.Close ∷ Mark s.BraceOpen ∷ Key k.If ∷ Mark s.Open ∷ name ∷ Mark s.Close ∷ Mark s.Semicolon ∷ Key k.Else ∷ []) (Mark s.BraceClose ∷ []) ∷
    -- void f() { x = f(a)^->b; }
    unexpected (Key k.Void ∷ name ∷ Mark s.Open ∷ Mark s.Close ∷ Mark s.BraceOpen ∷ name ∷ Mark s.Assign ∷ name ∷ Mark s.Open ∷ name ∷ Mark s.Close ∷ []) (Mark s.Arrow ∷ name ∷ Mark s.Semicolon ∷ Mark s.BraceClose ∷ []) ∷
    -- void f() { x = (f)^(a); }
    unexpected (Key k.Void ∷ name ∷ Mark s.Open ∷ Mark s.Close ∷ Mark s.BraceOpen ∷ name ∷ Mark s.Assign ∷ Mark s.Open ∷ name ∷ Mark s.Close ∷ []) (Mark s.Open ∷ name ∷ Mark s.Close ∷ Mark s.Semicolon ∷ Mark s.BraceClose ∷ []) ∷
    -- void f() { x = 1 + f^(a); }
    unexpected (Key k.Void ∷ name ∷ Mark s.Open ∷ Mark s.Close ∷ Mark s.BraceOpen ∷ name ∷ Mark s.Assign ∷ number ∷ Mark s.Plus ∷ name ∷ []) (Mark s.Open ∷ name ∷ Mark s.Close ∷ Mark s.Semicolon ∷ Mark s.BraceClose ∷ []) ∷
    -- void f() { if (f^(a)) ; }
    unexpected (Key k.Void ∷ name ∷ Mark s.Open ∷ Mark s.Close ∷ Mark s.BraceOpen ∷ Key k.If ∷ Mark s.Open ∷ name ∷ []) (Mark s.Open ∷ name ∷ Mark s.Close ∷ Mark s.Close ∷ Mark s.Semicolon ∷ Mark s.BraceClose ∷ []) ∷
    -- void f() { (a) ^= 1; }
    unexpected (Key k.Void ∷ name ∷ Mark s.Open ∷ Mark s.Close ∷ Mark s.BraceOpen ∷ Mark s.Open ∷ name ∷ Mark s.Close ∷ []) (Mark s.Assign ∷ number ∷ Mark s.Semicolon ∷ Mark s.BraceClose ∷ []) ∷
    -- void f() { a->b^; }
    unexpected (Key k.Void ∷ name ∷ Mark s.Open ∷ Mark s.Close ∷ Mark s.BraceOpen ∷ name ∷ Mark s.Arrow ∷ name ∷ []) (Mark s.Semicolon ∷ Mark s.BraceClose ∷ []) ∷
    -- void f() { f(a) ^+ 1; }
    unexpected (Key k.Void ∷ name ∷ Mark s.Open ∷ Mark s.Close ∷ Mark s.BraceOpen ∷ name ∷ Mark s.Open ∷ name ∷ Mark s.Close ∷ []) (Mark s.Plus ∷ number ∷ Mark s.Semicolon ∷ Mark s.BraceClose ∷ []) ∷
    -- void f() { x = y ^= z; }
    unexpected (Key k.Void ∷ name ∷ Mark s.Open ∷ Mark s.Close ∷ Mark s.BraceOpen ∷ name ∷ Mark s.Assign ∷ name ∷ []) (Mark s.Assign ∷ name ∷ Mark s.Semicolon ∷ Mark s.BraceClose ∷ []) ∷
    -- void f() { x++ ^+ 1; }
    unexpected (Key k.Void ∷ name ∷ Mark s.Open ∷ Mark s.Close ∷ Mark s.BraceOpen ∷ name ∷ Mark s.Increment ∷ []) (Mark s.Plus ∷ number ∷ Mark s.Semicolon ∷ Mark s.BraceClose ∷ []) ∷
    -- void f() { a^[1] = 2; }
    unexpected (Key k.Void ∷ name ∷ Mark s.Open ∷ Mark s.Close ∷ Mark s.BraceOpen ∷ name ∷ []) (name ∷ number ∷ name ∷ Mark s.Assign ∷ number ∷ Mark s.Semicolon ∷ Mark s.BraceClose ∷ []) ∷
    -- void f() { x = a ^. b; }
    unexpected (Key k.Void ∷ name ∷ Mark s.Open ∷ Mark s.Close ∷ Mark s.BraceOpen ∷ name ∷ Mark s.Assign ∷ name ∷ []) (Mark s.Dot ∷ name ∷ Mark s.Semicolon ∷ Mark s.BraceClose ∷ []) ∷
    -- void f() { x = a ^& b; }
    unexpected (Key k.Void ∷ name ∷ Mark s.Open ∷ Mark s.Close ∷ Mark s.BraceOpen ∷ name ∷ Mark s.Assign ∷ name ∷ []) (Mark s.Ampersand ∷ name ∷ Mark s.Semicolon ∷ Mark s.BraceClose ∷ []) ∷
    -- void f() { x = ^&a; }
    unexpected (Key k.Void ∷ name ∷ Mark s.Open ∷ Mark s.Close ∷ Mark s.BraceOpen ∷ name ∷ Mark s.Assign ∷ []) (Mark s.Ampersand ∷ name ∷ Mark s.Semicolon ∷ Mark s.BraceClose ∷ []) ∷
    -- void f() { x = ^*a; }
    unexpected (Key k.Void ∷ name ∷ Mark s.Open ∷ Mark s.Close ∷ Mark s.BraceOpen ∷ name ∷ Mark s.Assign ∷ []) (Mark s.Star ∷ name ∷ Mark s.Semicolon ∷ Mark s.BraceClose ∷ []) ∷
    -- void f() { x = p->^(a); }
    unexpected (Key k.Void ∷ name ∷ Mark s.Open ∷ Mark s.Close ∷ Mark s.BraceOpen ∷ name ∷ Mark s.Assign ∷ name ∷ Mark s.Arrow ∷ []) (Mark s.Open ∷ name ∷ Mark s.Close ∷ Mark s.Semicolon ∷ Mark s.BraceClose ∷ []) ∷
    -- void f() { x = p->^\closed; }
    unexpected (Key k.Void ∷ name ∷ Mark s.Open ∷ Mark s.Close ∷ Mark s.BraceOpen ∷ name ∷ Mark s.Assign ∷ name ∷ Mark s.Arrow ∷ []) (Spec w.Closed ∷ Mark s.Semicolon ∷ Mark s.BraceClose ∷ []) ∷
    -- void f() { x = a ^==> b; }
    unexpected (Key k.Void ∷ name ∷ Mark s.Open ∷ Mark s.Close ∷ Mark s.BraceOpen ∷ name ∷ Mark s.Assign ∷ name ∷ []) (Mark s.Implies ∷ name ∷ Mark s.Semicolon ∷ Mark s.BraceClose ∷ []) ∷
    -- void f() { struct S ^x; }
    unexpected (Key k.Void ∷ name ∷ Mark s.Open ∷ Mark s.Close ∷ Mark s.BraceOpen ∷ Key k.Struct ∷ name ∷ []) (name ∷ Mark s.Semicolon ∷ Mark s.BraceClose ∷ []) ∷
    -- void f() { long ^x; }
    unexpected (Key k.Void ∷ name ∷ Mark s.Open ∷ Mark s.Close ∷ Mark s.BraceOpen ∷ Key k.Long ∷ []) (name ∷ Mark s.Semicolon ∷ Mark s.BraceClose ∷ []) ∷
    -- void f() { _(assert 1 ^}) }
    unexpected (Key k.Void ∷ name ∷ Mark s.Open ∷ Mark s.Close ∷ Mark s.BraceOpen ∷ Mark s.Annotation ∷ Key k.Assert ∷ number ∷ []) (Mark s.BraceClose ∷ Mark s.Close ∷ Mark s.BraceClose ∷ []) ∷
    -- void f() { _(assert ^) }
    unexpected (Key k.Void ∷ name ∷ Mark s.Open ∷ Mark s.Close ∷ Mark s.BraceOpen ∷ Mark s.Annotation ∷ Key k.Assert ∷ []) (Mark s.Close ∷ Mark s.BraceClose ∷ []) ∷
    -- void f() { _(assert p->^\owns) }
    unexpected (Key k.Void ∷ name ∷ Mark s.Open ∷ Mark s.Close ∷ Mark s.BraceOpen ∷ Mark s.Annotation ∷ Key k.Assert ∷ name ∷ Mark s.Arrow ∷ []) (Spec w.Owns ∷ Mark s.Close ∷ Mark s.BraceClose ∷ []) ∷
    -- void f() { _(assert p \in q^) }
    unexpected (Key k.Void ∷ name ∷ Mark s.Open ∷ Mark s.Close ∷ Mark s.BraceOpen ∷ Mark s.Annotation ∷ Key k.Assert ∷ name ∷ Spec w.In ∷ name ∷ []) (Mark s.Close ∷ Mark s.BraceClose ∷ []) ∷
    -- void f() { _(assert p \in q->x^) }
    unexpected (Key k.Void ∷ name ∷ Mark s.Open ∷ Mark s.Close ∷ Mark s.BraceOpen ∷ Mark s.Annotation ∷ Key k.Assert ∷ name ∷ Spec w.In ∷ name ∷ Mark s.Arrow ∷ name ∷ []) (Mark s.Close ∷ Mark s.BraceClose ∷ []) ∷
    -- void f() { _(assert p \in \forall \object q; q->^\owns) }
    unexpected (Key k.Void ∷ name ∷ Mark s.Open ∷ Mark s.Close ∷ Mark s.BraceOpen ∷ Mark s.Annotation ∷ Key k.Assert ∷ name ∷ Spec w.In ∷ Spec w.Forall ∷ Spec w.Object ∷ name ∷ Mark s.Semicolon ∷ name ∷ Mark s.Arrow ∷ []) (Spec w.Owns ∷ Mark s.Close ∷ Mark s.BraceClose ∷ []) ∷
    -- void f() { _(assert p \in \forall \object q; q^) }
    unexpected (Key k.Void ∷ name ∷ Mark s.Open ∷ Mark s.Close ∷ Mark s.BraceOpen ∷ Mark s.Annotation ∷ Key k.Assert ∷ name ∷ Spec w.In ∷ Spec w.Forall ∷ Spec w.Object ∷ name ∷ Mark s.Semicolon ∷ name ∷ []) (Mark s.Close ∷ Mark s.BraceClose ∷ []) ∷
    -- void f() { _(assert p \in \forall \object q; q ^== r && q \in a->\owns->\owns) }
    unexpected (Key k.Void ∷ name ∷ Mark s.Open ∷ Mark s.Close ∷ Mark s.BraceOpen ∷ Mark s.Annotation ∷ Key k.Assert ∷ name ∷ Spec w.In ∷ Spec w.Forall ∷ Spec w.Object ∷ name ∷ Mark s.Semicolon ∷ name ∷ []) (Mark s.Equal ∷ name ∷ Mark s.And ∷ name ∷ Spec w.In ∷ name ∷ Mark s.Arrow ∷ Spec w.Owns ∷ Mark s.Arrow ∷ Spec w.Owns ∷ Mark s.Close ∷ Mark s.BraceClose ∷ []) ∷
    -- void f() { _(assert p \in \forall \object q; ^!q) }
    unexpected (Key k.Void ∷ name ∷ Mark s.Open ∷ Mark s.Close ∷ Mark s.BraceOpen ∷ Mark s.Annotation ∷ Key k.Assert ∷ name ∷ Spec w.In ∷ Spec w.Forall ∷ Spec w.Object ∷ name ∷ Mark s.Semicolon ∷ []) (Mark s.Not ∷ name ∷ Mark s.Close ∷ Mark s.BraceClose ∷ []) ∷
    -- void f() { _(assert p \in \forall \object q; q \in a->\owns^) }
    unexpected (Key k.Void ∷ name ∷ Mark s.Open ∷ Mark s.Close ∷ Mark s.BraceOpen ∷ Mark s.Annotation ∷ Key k.Assert ∷ name ∷ Spec w.In ∷ Spec w.Forall ∷ Spec w.Object ∷ name ∷ Mark s.Semicolon ∷ name ∷ Spec w.In ∷ name ∷ Mark s.Arrow ∷ Spec w.Owns ∷ []) (Mark s.Close ∷ Mark s.BraceClose ∷ []) ∷
    -- void f() { _(assert p \in \forall \object q; q \in a->\owns ^|| r \in b->\owns->\owns) }
    unexpected (Key k.Void ∷ name ∷ Mark s.Open ∷ Mark s.Close ∷ Mark s.BraceOpen ∷ Mark s.Annotation ∷ Key k.Assert ∷ name ∷ Spec w.In ∷ Spec w.Forall ∷ Spec w.Object ∷ name ∷ Mark s.Semicolon ∷ name ∷ Spec w.In ∷ name ∷ Mark s.Arrow ∷ Spec w.Owns ∷ []) (Mark s.Or ∷ name ∷ Spec w.In ∷ name ∷ Mark s.Arrow ∷ Spec w.Owns ∷ Mark s.Arrow ∷ Spec w.Owns ∷ Mark s.Close ∷ Mark s.BraceClose ∷ []) ∷
    -- void f() { _(assert p \in \forall \object q; q \in a->\owns && r^) }
    unexpected (Key k.Void ∷ name ∷ Mark s.Open ∷ Mark s.Close ∷ Mark s.BraceOpen ∷ Mark s.Annotation ∷ Key k.Assert ∷ name ∷ Spec w.In ∷ Spec w.Forall ∷ Spec w.Object ∷ name ∷ Mark s.Semicolon ∷ name ∷ Spec w.In ∷ name ∷ Mark s.Arrow ∷ Spec w.Owns ∷ Mark s.And ∷ name ∷ []) (Mark s.Close ∷ Mark s.BraceClose ∷ []) ∷
    -- void f() { _(assert p \in \forall \object q; \exists \object r; r \in a->\owns->^\owns) }
    unexpected (Key k.Void ∷ name ∷ Mark s.Open ∷ Mark s.Close ∷ Mark s.BraceOpen ∷ Mark s.Annotation ∷ Key k.Assert ∷ name ∷ Spec w.In ∷ Spec w.Forall ∷ Spec w.Object ∷ name ∷ Mark s.Semicolon ∷ Spec w.Exists ∷ Spec w.Object ∷ name ∷ Mark s.Semicolon ∷ name ∷ Spec w.In ∷ name ∷ Mark s.Arrow ∷ Spec w.Owns ∷ Mark s.Arrow ∷ []) (Spec w.Owns ∷ Mark s.Close ∷ Mark s.BraceClose ∷ []) ∷
    -- void f() { _(assert \forall int i^) }
    unexpected (Key k.Void ∷ name ∷ Mark s.Open ∷ Mark s.Close ∷ Mark s.BraceOpen ∷ Mark s.Annotation ∷ Key k.Assert ∷ Spec w.Forall ∷ Key k.Int ∷ name ∷ []) (Mark s.Close ∷ Mark s.BraceClose ∷ []) ∷
    -- void f() { _(assert \forall ^i; 1) }
    unexpected (Key k.Void ∷ name ∷ Mark s.Open ∷ Mark s.Close ∷ Mark s.BraceOpen ∷ Mark s.Annotation ∷ Key k.Assert ∷ Spec w.Forall ∷ []) (name ∷ Mark s.Semicolon ∷ number ∷ Mark s.Close ∷ Mark s.BraceClose ∷ []) ∷
    -- void f() { _(assert \old^1) }
    unexpected (Key k.Void ∷ name ∷ Mark s.Open ∷ Mark s.Close ∷ Mark s.BraceOpen ∷ Mark s.Annotation ∷ Key k.Assert ∷ Spec w.Old ∷ []) (number ∷ Mark s.Close ∷ Mark s.BraceClose ∷ []) ∷
    -- void f() { _(assert \old(^)) }
    unexpected (Key k.Void ∷ name ∷ Mark s.Open ∷ Mark s.Close ∷ Mark s.BraceOpen ∷ Mark s.Annotation ∷ Key k.Assert ∷ Spec w.Old ∷ Mark s.Open ∷ []) (Mark s.Close ∷ Mark s.Close ∷ Mark s.BraceClose ∷ []) ∷
    -- void f() { _(assert \mine(^)) }
    unexpected (Key k.Void ∷ name ∷ Mark s.Open ∷ Mark s.Close ∷ Mark s.BraceOpen ∷ Mark s.Annotation ∷ Key k.Assert ∷ Spec w.Mine ∷ Mark s.Open ∷ []) (Mark s.Close ∷ Mark s.Close ∷ Mark s.BraceClose ∷ []) ∷
    -- void f() { _(assert \claims_object(c^)) }
    unexpected (Key k.Void ∷ name ∷ Mark s.Open ∷ Mark s.Close ∷ Mark s.BraceOpen ∷ Mark s.Annotation ∷ Key k.Assert ∷ Spec w.ClaimsObject ∷ Mark s.Open ∷ name ∷ []) (Mark s.Close ∷ Mark s.Close ∷ Mark s.BraceClose ∷ []) ∷
    -- void f() { _(assert \claims(c, 1^, 2)) }
    unexpected (Key k.Void ∷ name ∷ Mark s.Open ∷ Mark s.Close ∷ Mark s.BraceOpen ∷ Mark s.Annotation ∷ Key k.Assert ∷ Spec w.Claims ∷ Mark s.Open ∷ name ∷ Mark s.Comma ∷ number ∷ []) (Mark s.Comma ∷ number ∷ Mark s.Close ∷ Mark s.Close ∷ Mark s.BraceClose ∷ []) ∷
    -- void f() { _(assert a ^\this) }
    unexpected (Key k.Void ∷ name ∷ Mark s.Open ∷ Mark s.Close ∷ Mark s.BraceOpen ∷ Mark s.Annotation ∷ Key k.Assert ∷ name ∷ []) (Spec w.This ∷ Mark s.Close ∷ Mark s.BraceClose ∷ []) ∷
    -- void f() { _(assert a ? b^) }
    unexpected (Key k.Void ∷ name ∷ Mark s.Open ∷ Mark s.Close ∷ Mark s.BraceOpen ∷ Mark s.Annotation ∷ Key k.Assert ∷ name ∷ Mark s.Question ∷ name ∷ []) (Mark s.Close ∷ Mark s.BraceClose ∷ []) ∷
    -- void f() _(ensures ^) { }
    unexpected (Key k.Void ∷ name ∷ Mark s.Open ∷ Mark s.Close ∷ Mark s.Annotation ∷ Key k.Ensures ∷ []) (Mark s.Close ∷ Mark s.BraceOpen ∷ Mark s.BraceClose ∷ []) ∷
    -- void f() _(writes p,^) { }
    unexpected (Key k.Void ∷ name ∷ Mark s.Open ∷ Mark s.Close ∷ Mark s.Annotation ∷ Key k.Writes ∷ name ∷ Mark s.Comma ∷ []) (Mark s.Close ∷ Mark s.BraceOpen ∷ Mark s.BraceClose ∷ []) ∷
    -- void f() _(maintains 1) ^;
    unexpected (Key k.Void ∷ name ∷ Mark s.Open ∷ Mark s.Close ∷ Mark s.Annotation ∷ Key k.Maintains ∷ number ∷ Mark s.Close ∷ []) (Mark s.Semicolon ∷ []) ∷
    -- void f(int ^) { }
    unexpected (Key k.Void ∷ name ∷ Mark s.Open ∷ Key k.Int ∷ []) (Mark s.Close ∷ Mark s.BraceOpen ∷ Mark s.BraceClose ∷ []) ∷
    -- void f(int a,^) { }
    unexpected (Key k.Void ∷ name ∷ Mark s.Open ∷ Key k.Int ∷ name ∷ Mark s.Comma ∷ []) (Mark s.Close ∷ Mark s.BraceOpen ∷ Mark s.BraceClose ∷ []) ∷
    -- void f(^a) { }
    unexpected (Key k.Void ∷ name ∷ Mark s.Open ∷ []) (name ∷ Mark s.Close ∷ Mark s.BraceOpen ∷ Mark s.BraceClose ∷ []) ∷
    -- struct ^{ };
    unexpected (Key k.Struct ∷ []) (Mark s.BraceOpen ∷ Mark s.BraceClose ∷ Mark s.Semicolon ∷ []) ∷
    -- struct S { int x ^};
    unexpected (Key k.Struct ∷ name ∷ Mark s.BraceOpen ∷ Key k.Int ∷ name ∷ []) (Mark s.BraceClose ∷ Mark s.Semicolon ∷ []) ∷
    -- struct S { ^x; };
    unexpected (Key k.Struct ∷ name ∷ Mark s.BraceOpen ∷ []) (name ∷ Mark s.Semicolon ∷ Mark s.BraceClose ∷ Mark s.Semicolon ∷ []) ∷
    -- struct S { _(^assert 1) };
    unexpected (Key k.Struct ∷ name ∷ Mark s.BraceOpen ∷ Mark s.Annotation ∷ []) (Key k.Assert ∷ number ∷ Mark s.Close ∷ Mark s.BraceClose ∷ Mark s.Semicolon ∷ []) ∷
    -- struct S { } ^
    unexpected (Key k.Struct ∷ name ∷ Mark s.BraceOpen ∷ Mark s.BraceClose ∷ []) ([]) ∷
    -- struct S { int x; int f^() { } };
    unexpected (Key k.Struct ∷ name ∷ Mark s.BraceOpen ∷ Key k.Int ∷ name ∷ Mark s.Semicolon ∷ Key k.Int ∷ name ∷ []) (Mark s.Open ∷ Mark s.Close ∷ Mark s.BraceOpen ∷ Mark s.BraceClose ∷ Mark s.BraceClose ∷ Mark s.Semicolon ∷ []) ∷
    -- _(claimable) ^void f() { }
    unexpected (Mark s.Annotation ∷ Key k.Claimable ∷ Mark s.Close ∷ []) (Key k.Void ∷ name ∷ Mark s.Open ∷ Mark s.Close ∷ Mark s.BraceOpen ∷ Mark s.BraceClose ∷ []) ∷
    -- _(claimable ^struct S { };
    unexpected (Mark s.Annotation ∷ Key k.Claimable ∷ []) (Key k.Struct ∷ name ∷ Mark s.BraceOpen ∷ Mark s.BraceClose ∷ Mark s.Semicolon ∷ []) ∷
    -- ^f() { }
    unexpected ([]) (name ∷ Mark s.Open ∷ Mark s.Close ∷ Mark s.BraceOpen ∷ Mark s.BraceClose ∷ []) ∷
    -- ^;
    unexpected ([]) (Mark s.Semicolon ∷ []) ∷
    -- int ^{ }
    unexpected (Key k.Int ∷ []) (Mark s.BraceOpen ∷ Mark s.BraceClose ∷ []) ∷
    -- long ^f() { }
    unexpected (Key k.Long ∷ []) (name ∷ Mark s.Open ∷ Mark s.Close ∷ Mark s.BraceOpen ∷ Mark s.BraceClose ∷ []) ∷
    -- unsigned long ^f() { }
    unexpected (Key k.Unsigned ∷ Key k.Long ∷ []) (name ∷ Mark s.Open ∷ Mark s.Close ∷ Mark s.BraceOpen ∷ Mark s.BraceClose ∷ []) ∷
    -- struct S ^f() { }
    unexpected (Key k.Struct ∷ name ∷ []) (name ∷ Mark s.Open ∷ Mark s.Close ∷ Mark s.BraceOpen ∷ Mark s.BraceClose ∷ []) ∷
    -- struct S *f^;
    unexpected (Key k.Struct ∷ name ∷ Mark s.Star ∷ name ∷ []) (Mark s.Semicolon ∷ []) ∷
    -- void f() { { } ^
    unexpected (Key k.Void ∷ name ∷ Mark s.Open ∷ Mark s.Close ∷ Mark s.BraceOpen ∷ Mark s.BraceOpen ∷ Mark s.BraceClose ∷ []) ([]) ∷
    -- void f() { } void ^
    unexpected (Key k.Void ∷ name ∷ Mark s.Open ∷ Mark s.Close ∷ Mark s.BraceOpen ∷ Mark s.BraceClose ∷ Key k.Void ∷ []) ([]) ∷
    -- ^
    unexpected ([]) ([]) ∷
    []

-- void main(int x) { x = ((..0..)); }
abbrev brackets : ℕ → List Word
brackets n = Key k.Void ∷ name ∷ Mark s.Open ∷ Key k.Int ∷ name ∷ Mark s.Close ∷ Mark s.BraceOpen ∷ name ∷ Mark s.Assign ∷ times n (Mark s.Open) (number ∷ times n (Mark s.Close) (Mark s.Semicolon ∷ Mark s.BraceClose ∷ []))

abbrev deep : List Bool
deep =
    item 5 (brackets 1) ∷
    item 200 (brackets 196) ∷
    too_deep (Key k.Void ∷ name ∷ Mark s.Open ∷ Key k.Int ∷ name ∷ Mark s.Close ∷ Mark s.BraceOpen ∷ name ∷ Mark s.Assign ∷ times 196 (Mark s.Open) []) (Mark s.Open ∷ number ∷ times 197 (Mark s.Close) (Mark s.Semicolon ∷ Mark s.BraceClose ∷ [])) ∷
    -- void f() { _(assert (..(p \in \forall \object q; q \in a->\owns->\owns)..)) }, of 191 brackets
    item 200 (Key k.Void ∷ name ∷ Mark s.Open ∷ Mark s.Close ∷ Mark s.BraceOpen ∷ Mark s.Annotation ∷ Key k.Assert ∷ times 191 (Mark s.Open) (name ∷ Spec w.In ∷ Spec w.Forall ∷ Spec w.Object ∷ name ∷ Mark s.Semicolon ∷ name ∷ Spec w.In ∷ name ∷ Mark s.Arrow ∷ Spec w.Owns ∷ Mark s.Arrow ∷ Spec w.Owns ∷ times 192 (Mark s.Close) (Mark s.BraceClose ∷ []))) ∷
    -- void f() { _(assert (..(p \in \forall \object q; q \in a->\owns ^&& r \in b->\owns->\owns)..)) }, of as many
    too_deep (Key k.Void ∷ name ∷ Mark s.Open ∷ Mark s.Close ∷ Mark s.BraceOpen ∷ Mark s.Annotation ∷ Key k.Assert ∷ times 191 (Mark s.Open) (name ∷ Spec w.In ∷ Spec w.Forall ∷ Spec w.Object ∷ name ∷ Mark s.Semicolon ∷ name ∷ Spec w.In ∷ name ∷ Mark s.Arrow ∷ Spec w.Owns ∷ [])) (Mark s.And ∷ name ∷ Spec w.In ∷ name ∷ Mark s.Arrow ∷ Spec w.Owns ∷ Mark s.Arrow ∷ Spec w.Owns ∷ times 192 (Mark s.Close) (Mark s.BraceClose ∷ [])) ∷
    -- void f() { _(assert (..(p \in ^\forall \object q; q \in a->\owns->\owns)..)) }, of one more
    too_deep (Key k.Void ∷ name ∷ Mark s.Open ∷ Mark s.Close ∷ Mark s.BraceOpen ∷ Mark s.Annotation ∷ Key k.Assert ∷ times 192 (Mark s.Open) (name ∷ Spec w.In ∷ [])) (Spec w.Forall ∷ Spec w.Object ∷ name ∷ Mark s.Semicolon ∷ name ∷ Spec w.In ∷ name ∷ Mark s.Arrow ∷ Spec w.Owns ∷ Mark s.Arrow ∷ Spec w.Owns ∷ times 193 (Mark s.Close) (Mark s.BraceClose ∷ [])) ∷
    []

-- A lock, its functions and two threads that use it: two structs and five functions.
abbrev lock : List Word
lock = Key k.Struct ∷ name ∷ Mark s.BraceOpen ∷ Key k.Int ∷ name ∷ Mark s.Semicolon ∷ Mark s.Annotation ∷ Key k.Invariant ∷ name ∷ Mark s.GreaterEqual ∷ number ∷ Mark s.Close ∷ Mark s.BraceClose ∷ Mark s.Semicolon ∷ Mark s.Annotation ∷ Key k.Claimable ∷ Mark s.Comma ∷ Key k.VolatileOwns ∷ Mark s.Close ∷ Key k.Struct ∷ name ∷ Mark s.BraceOpen ∷ Key k.Volatile ∷ Key k.Int ∷ name ∷ Mark s.Semicolon ∷ Mark s.Annotation ∷ Key k.Ghost ∷ Spec w.Object ∷ name ∷ Mark s.Semicolon ∷ Mark s.Close ∷ Mark s.Annotation ∷ Key k.Invariant ∷ name ∷ Mark s.Equal ∷ number ∷ Mark s.Implies ∷ Spec w.Mine ∷ Mark s.Open ∷ name ∷ Mark s.Close ∷ Mark s.Close ∷ Mark s.BraceClose ∷ Mark s.Semicolon ∷ Key k.Void ∷ name ∷ Mark s.Open ∷ Key k.Struct ∷ name ∷ Mark s.Star ∷ name ∷ Mark s.Annotation ∷ Key k.Ghost ∷ Spec w.Object ∷ name ∷ Mark s.Close ∷ Mark s.Close ∷ Mark s.Annotation ∷ Key k.Writes ∷ Spec w.Span ∷ Mark s.Open ∷ name ∷ Mark s.Close ∷ Mark s.Comma ∷ name ∷ Mark s.Close ∷ Mark s.Annotation ∷ Key k.Requires ∷ Spec w.Wrapped ∷ Mark s.Open ∷ name ∷ Mark s.Close ∷ Mark s.Close ∷ Mark s.Annotation ∷ Key k.Ensures ∷ Spec w.Wrapped ∷ Mark s.Open ∷ name ∷ Mark s.Close ∷ Mark s.And ∷ name ∷ Mark s.Arrow ∷ name ∷ Mark s.Equal ∷ name ∷ Mark s.Close ∷ Mark s.BraceOpen ∷ name ∷ Mark s.Arrow ∷ name ∷ Mark s.Assign ∷ number ∷ Mark s.Semicolon ∷ Mark s.Annotation ∷ Key k.Ghost ∷ name ∷ Mark s.Arrow ∷ name ∷ Mark s.Assign ∷ name ∷ Mark s.Semicolon ∷ Mark s.Close ∷ Mark s.Annotation ∷ Key k.Ghost ∷ name ∷ Mark s.Arrow ∷ Spec w.Owns ∷ Mark s.Assign ∷ Mark s.BraceOpen ∷ name ∷ Mark s.BraceClose ∷ Mark s.Semicolon ∷ Mark s.Close ∷ Mark s.Annotation ∷ Key k.Wrap ∷ name ∷ Mark s.Close ∷ Mark s.BraceClose ∷ Key k.Void ∷ name ∷ Mark s.Open ∷ Key k.Struct ∷ name ∷ Mark s.Star ∷ name ∷ Mark s.Annotation ∷ Key k.Ghost ∷ Spec w.Claim ∷ name ∷ Mark s.Close ∷ Mark s.Close ∷ Mark s.Annotation ∷ Key k.Maintains ∷ Spec w.Wrapped ∷ Mark s.Open ∷ name ∷ Mark s.Close ∷ Mark s.And ∷ Spec w.ClaimsObject ∷ Mark s.Open ∷ name ∷ Mark s.Comma ∷ name ∷ Mark s.Close ∷ Mark s.Close ∷ Mark s.Annotation ∷ Key k.Ensures ∷ Spec w.Wrapped ∷ Mark s.Open ∷ name ∷ Mark s.Arrow ∷ name ∷ Mark s.Close ∷ Mark s.And ∷ Spec w.Fresh ∷ Mark s.Open ∷ name ∷ Mark s.Arrow ∷ name ∷ Mark s.Close ∷ Mark s.Close ∷ Mark s.BraceOpen ∷ Key k.Int ∷ name ∷ Mark s.Assign ∷ number ∷ Mark s.Semicolon ∷ Key k.Do ∷ Mark s.BraceOpen ∷ Mark s.Annotation ∷ Key k.Atomic ∷ name ∷ Mark s.Comma ∷ name ∷ Mark s.Close ∷ Mark s.BraceOpen ∷ name ∷ Mark s.Assign ∷ Key k.CompareExchange ∷ Mark s.Open ∷ Mark s.Ampersand ∷ name ∷ Mark s.Arrow ∷ name ∷ Mark s.Comma ∷ number ∷ Mark s.Comma ∷ number ∷ Mark s.Close ∷ Mark s.Equal ∷ number ∷ Mark s.Semicolon ∷ Mark s.Annotation ∷ Key k.Ghost ∷ Key k.If ∷ Mark s.Open ∷ name ∷ Mark s.Close ∷ name ∷ Mark s.Arrow ∷ Spec w.Owns ∷ Mark s.SubtractAssign ∷ name ∷ Mark s.Arrow ∷ name ∷ Mark s.Semicolon ∷ Mark s.Close ∷ Mark s.BraceClose ∷ Mark s.BraceClose ∷ Key k.While ∷ Mark s.Open ∷ Mark s.Not ∷ name ∷ Mark s.Close ∷ Mark s.Semicolon ∷ Mark s.BraceClose ∷ Key k.Void ∷ name ∷ Mark s.Open ∷ Key k.Struct ∷ name ∷ Mark s.Star ∷ name ∷ Mark s.Annotation ∷ Key k.Ghost ∷ Spec w.Claim ∷ name ∷ Mark s.Close ∷ Mark s.Close ∷ Mark s.Annotation ∷ Key k.Requires ∷ name ∷ Mark s.Arrow ∷ name ∷ Mark s.NotEqual ∷ name ∷ Mark s.Close ∷ Mark s.Annotation ∷ Key k.Maintains ∷ Spec w.Wrapped ∷ Mark s.Open ∷ name ∷ Mark s.Close ∷ Mark s.And ∷ Spec w.ClaimsObject ∷ Mark s.Open ∷ name ∷ Mark s.Comma ∷ name ∷ Mark s.Close ∷ Mark s.Close ∷ Mark s.Annotation ∷ Key k.Requires ∷ Spec w.Wrapped ∷ Mark s.Open ∷ name ∷ Mark s.Arrow ∷ name ∷ Mark s.Close ∷ Mark s.Close ∷ Mark s.Annotation ∷ Key k.Writes ∷ name ∷ Mark s.Arrow ∷ name ∷ Mark s.Close ∷ Mark s.BraceOpen ∷ Mark s.Annotation ∷ Key k.Atomic ∷ name ∷ Mark s.Comma ∷ name ∷ Mark s.Close ∷ Mark s.BraceOpen ∷ name ∷ Mark s.Arrow ∷ name ∷ Mark s.Assign ∷ number ∷ Mark s.Semicolon ∷ Mark s.Annotation ∷ Key k.Ghost ∷ name ∷ Mark s.Arrow ∷ Spec w.Owns ∷ Mark s.AddAssign ∷ name ∷ Mark s.Arrow ∷ name ∷ Mark s.Semicolon ∷ Mark s.Close ∷ Mark s.BraceClose ∷ Mark s.BraceClose ∷ Key k.Void ∷ name ∷ Mark s.Open ∷ Key k.Struct ∷ name ∷ Mark s.Star ∷ name ∷ Mark s.Comma ∷ Key k.Struct ∷ name ∷ Mark s.Star ∷ name ∷ Mark s.Annotation ∷ Key k.Ghost ∷ Spec w.Claim ∷ name ∷ Mark s.Close ∷ Mark s.Close ∷ Mark s.Annotation ∷ Key k.Requires ∷ Spec w.Wrapped ∷ Mark s.Open ∷ name ∷ Mark s.Close ∷ Mark s.And ∷ Spec w.ClaimsObject ∷ Mark s.Open ∷ name ∷ Mark s.Comma ∷ name ∷ Mark s.Close ∷ Mark s.And ∷ name ∷ Mark s.Arrow ∷ name ∷ Mark s.Equal ∷ name ∷ Mark s.Close ∷ Mark s.Annotation ∷ Key k.Writes ∷ name ∷ Mark s.Close ∷ Mark s.BraceOpen ∷ name ∷ Mark s.Open ∷ name ∷ Mark s.Annotation ∷ Key k.Ghost ∷ name ∷ Mark s.Close ∷ Mark s.Close ∷ Mark s.Semicolon ∷ Mark s.Annotation ∷ Key k.Unwrap ∷ name ∷ Mark s.Close ∷ name ∷ Mark s.Arrow ∷ name ∷ Mark s.Assign ∷ number ∷ Mark s.Semicolon ∷ Mark s.Annotation ∷ Key k.Wrap ∷ name ∷ Mark s.Close ∷ name ∷ Mark s.Open ∷ name ∷ Mark s.Annotation ∷ Key k.Ghost ∷ name ∷ Mark s.Close ∷ Mark s.Close ∷ Mark s.Semicolon ∷ Mark s.BraceClose ∷ Key k.Void ∷ name ∷ Mark s.Open ∷ Mark s.Close ∷ Mark s.BraceOpen ∷ Key k.Struct ∷ name ∷ Mark s.Star ∷ name ∷ Mark s.Assign ∷ Key k.Malloc ∷ Mark s.Open ∷ Key k.Sizeof ∷ Mark s.Open ∷ Key k.Struct ∷ name ∷ Mark s.Close ∷ Mark s.Close ∷ Mark s.Semicolon ∷ Key k.Struct ∷ name ∷ Mark s.Star ∷ name ∷ Mark s.Assign ∷ Key k.Malloc ∷ Mark s.Open ∷ Key k.Sizeof ∷ Mark s.Open ∷ Key k.Struct ∷ name ∷ Mark s.Close ∷ Mark s.Close ∷ Mark s.Semicolon ∷ Key k.If ∷ Mark s.Open ∷ name ∷ Mark s.NotEqual ∷ Key k.Null ∷ Mark s.And ∷ name ∷ Mark s.NotEqual ∷ Key k.Null ∷ Mark s.Close ∷ Mark s.BraceOpen ∷ name ∷ Mark s.Arrow ∷ name ∷ Mark s.Assign ∷ number ∷ Mark s.Semicolon ∷ Mark s.Annotation ∷ Key k.Wrap ∷ name ∷ Mark s.Close ∷ name ∷ Mark s.Open ∷ name ∷ Mark s.Annotation ∷ Key k.Ghost ∷ name ∷ Mark s.Close ∷ Mark s.Close ∷ Mark s.Semicolon ∷ Mark s.Annotation ∷ Key k.Ghost ∷ Spec w.Claim ∷ name ∷ Mark s.Assign ∷ Spec w.MakeClaim ∷ Mark s.Open ∷ Mark s.BraceOpen ∷ name ∷ Mark s.BraceClose ∷ Mark s.Comma ∷ Spec w.True ∷ Mark s.Close ∷ Mark s.Semicolon ∷ Mark s.Close ∷ Mark s.Annotation ∷ Key k.Ghost ∷ Spec w.Claim ∷ name ∷ Mark s.Assign ∷ Spec w.MakeClaim ∷ Mark s.Open ∷ Mark s.BraceOpen ∷ name ∷ Mark s.BraceClose ∷ Mark s.Comma ∷ Spec w.True ∷ Mark s.Close ∷ Mark s.Semicolon ∷ Mark s.Close ∷ Key k.VccSpawn ∷ Mark s.Open ∷ name ∷ Mark s.Comma ∷ name ∷ Mark s.Comma ∷ name ∷ Mark s.Annotation ∷ Key k.Ghost ∷ name ∷ Mark s.Close ∷ Mark s.Close ∷ Mark s.Semicolon ∷ Key k.VccSpawn ∷ Mark s.Open ∷ name ∷ Mark s.Comma ∷ name ∷ Mark s.Comma ∷ name ∷ Mark s.Annotation ∷ Key k.Ghost ∷ name ∷ Mark s.Close ∷ Mark s.Close ∷ Mark s.Semicolon ∷ Mark s.BraceClose ∷ Mark s.BraceClose ∷ []

abbrev has_items : ℕ → Out language (List Item) → Bool
has_items n (Ok p) = length p.0 == n
has_items n (Err e) = false

-- the fault of a token behind these words, which stands in the column behind them
abbrev says : SyntaxFault → List Word → List Word → Bool
says f xs ys = is_fault f (suc (length xs)) (read_source (placed 1 (xs ++ ys)))

abbrev forms : List Bool
forms =
    -- void f() { _(^assume 1) }
    says UnknownForm (Key k.Void ∷ name ∷ Mark s.Open ∷ Mark s.Close ∷ Mark s.BraceOpen ∷ Mark s.Annotation ∷ []) (name ∷ number ∷ Mark s.Close ∷ Mark s.BraceClose ∷ []) ∷
    -- void f() { _(^while (1)) }
    says UnknownForm (Key k.Void ∷ name ∷ Mark s.Open ∷ Mark s.Close ∷ Mark s.BraceOpen ∷ Mark s.Annotation ∷ []) (Key k.While ∷ Mark s.Open ∷ number ∷ Mark s.Close ∷ Mark s.Close ∷ Mark s.BraceClose ∷ []) ∷
    -- void f() { _(^int x) }
    says UnknownForm (Key k.Void ∷ name ∷ Mark s.Open ∷ Mark s.Close ∷ Mark s.BraceOpen ∷ Mark s.Annotation ∷ []) (Key k.Int ∷ name ∷ Mark s.Close ∷ Mark s.BraceClose ∷ []) ∷
    -- void f() { _(^NULL) }
    says UnknownForm (Key k.Void ∷ name ∷ Mark s.Open ∷ Mark s.Close ∷ Mark s.BraceOpen ∷ Mark s.Annotation ∷ []) (Key k.Null ∷ Mark s.Close ∷ Mark s.BraceClose ∷ []) ∷
    -- void f() { _(^requires 1) }
    says UnexpectedToken (Key k.Void ∷ name ∷ Mark s.Open ∷ Mark s.Close ∷ Mark s.BraceOpen ∷ Mark s.Annotation ∷ []) (Key k.Requires ∷ number ∷ Mark s.Close ∷ Mark s.BraceClose ∷ []) ∷
    -- void f() { _(^\true) }
    says UnexpectedToken (Key k.Void ∷ name ∷ Mark s.Open ∷ Mark s.Close ∷ Mark s.BraceOpen ∷ Mark s.Annotation ∷ []) (Spec w.True ∷ Mark s.Close ∷ Mark s.BraceClose ∷ []) ∷
    -- void f() { _(^1) }
    says UnexpectedToken (Key k.Void ∷ name ∷ Mark s.Open ∷ Mark s.Close ∷ Mark s.BraceOpen ∷ Mark s.Annotation ∷ []) (number ∷ Mark s.Close ∷ Mark s.BraceClose ∷ []) ∷
    -- _(claimable, ^foo) struct S { };
    says UnexpectedToken (Mark s.Annotation ∷ Key k.Claimable ∷ Mark s.Comma ∷ []) (name ∷ Mark s.Close ∷ Key k.Struct ∷ name ∷ Mark s.BraceOpen ∷ Mark s.BraceClose ∷ Mark s.Semicolon ∷ []) ∷
    -- void f() { x = 1 ^_(assume 1); }
    says UnexpectedToken (Key k.Void ∷ name ∷ Mark s.Open ∷ Mark s.Close ∷ Mark s.BraceOpen ∷ name ∷ Mark s.Assign ∷ number ∷ []) (Mark s.Annotation ∷ name ∷ number ∷ Mark s.Close ∷ Mark s.Semicolon ∷ Mark s.BraceClose ∷ []) ∷
    -- void f() ^_ assert(1) { }
    says UnexpectedToken (Key k.Void ∷ name ∷ Mark s.Open ∷ Mark s.Close ∷ []) (name ∷ Key k.Assert ∷ Mark s.Open ∷ number ∷ Mark s.Close ∷ Mark s.BraceOpen ∷ Mark s.BraceClose ∷ []) ∷
    -- _(^assert 1) struct S { };
    says UnexpectedToken (Mark s.Annotation ∷ []) (Key k.Assert ∷ number ∷ Mark s.Close ∷ Key k.Struct ∷ name ∷ Mark s.BraceOpen ∷ Mark s.BraceClose ∷ Mark s.Semicolon ∷ []) ∷
    -- struct S { _(^free x) };
    says UnknownForm (Key k.Struct ∷ name ∷ Mark s.BraceOpen ∷ Mark s.Annotation ∷ []) (Key k.Free ∷ name ∷ Mark s.Close ∷ Mark s.BraceClose ∷ Mark s.Semicolon ∷ []) ∷
    -- void f() _(^modifies x) { }
    says UnknownForm (Key k.Void ∷ name ∷ Mark s.Open ∷ Mark s.Close ∷ Mark s.Annotation ∷ []) (name ∷ name ∷ Mark s.Close ∷ Mark s.BraceOpen ∷ Mark s.BraceClose ∷ []) ∷
    -- void f(int a _(^vararg x)) { }
    says UnknownForm (Key k.Void ∷ name ∷ Mark s.Open ∷ Key k.Int ∷ name ∷ Mark s.Annotation ∷ []) (name ∷ name ∷ Mark s.Close ∷ Mark s.Close ∷ Mark s.BraceOpen ∷ Mark s.BraceClose ∷ []) ∷
    -- no item at all
    reads_none (read_source (placed 1 [])) ∷
    []

forms_hold : list_all (λ b. b) forms ≡ true
unfolding reads read links climbs read_rule first first_rule low low_rule is_empty
forms_hold = refl

items_hold : list_all (λ b. b) items ≡ true
unfolding reads read links climbs read_rule first first_rule low low_rule is_empty
items_hold = refl

faults_hold : list_all (λ b. b) faults ≡ true
unfolding reads read links climbs read_rule first first_rule low low_rule is_empty
faults_hold = refl

lock_holds : has_items 7 (read_items (placed 1 lock)) ≡ true
unfolding reads read links climbs read_rule first first_rule low low_rule is_empty
lock_holds = refl

deep_hold : list_all (λ b. b) deep ≡ true
unfolding reads read links climbs read_rule first first_rule low low_rule is_empty
deep_hold = refl

-- ---- trees

abbrev at : ℕ → Span
at n = record { line = 1; column = n }

abbrev id : ℕ → Id
id n = record { place = at n; name = 97 ∷ [] }

-- p \in \forall \object q; q \in a->\owns->\owns
abbrev quantified : List Word
quantified = name ∷ Spec w.In ∷ Spec w.Forall ∷ Spec w.Object ∷ name ∷ Mark s.Semicolon ∷ name ∷ Spec w.In ∷ name ∷ Mark s.Arrow ∷ Spec w.Owns ∷ Mark s.Arrow ∷ Spec w.Owns ∷ []

quantified_holds : reads language 6 (Level InSpec Equivalence) (placed 1 quantified) ≡ Ok (e.Binary (at 2) op.In (e.Name (id 1)) (e.Owns (at 12) (e.Quantified (at 3) quantifiers.ForAll e.Object (id 5) (e.Binary (at 8) op.In (e.Name (id 7)) (e.Owns (at 10) (e.Name (id 9)) (at 11)))) (at 13)), 6, placed 14 [])
unfolding reads read links climbs read_rule first first_rule low low_rule is_empty
quantified_holds = refl

-- _(volatile_owns, claimable) _(dynamic_owns) struct a { unsigned a; _(ghost volatile \claim a) _(invariant a) };
abbrev attributed : List Word
attributed = Mark s.Annotation ∷ Key k.VolatileOwns ∷ Mark s.Comma ∷ Key k.Claimable ∷ Mark s.Close ∷ Mark s.Annotation ∷ Key k.DynamicOwns ∷ Mark s.Close ∷ Key k.Struct ∷ name ∷ Mark s.BraceOpen ∷ Key k.Unsigned ∷ name ∷ Mark s.Semicolon ∷ Mark s.Annotation ∷ Key k.Ghost ∷ Key k.Volatile ∷ Spec w.Claim ∷ name ∷ Mark s.Close ∷ Mark s.Annotation ∷ Key k.Invariant ∷ name ∷ Mark s.Close ∷ Mark s.BraceClose ∷ Mark s.Semicolon ∷ []

attributed_holds : reads language 4 Program (placed 1 attributed) ≡ Ok (i.Struct (record { attributes = attributes.VolatileOwns ∷ attributes.Claimable ∷ attributes.DynamicOwns ∷ []; place = at 9; name = id 10; members = i.Field (record { is_ghost = false; is_volatile = false; ty = e.Integer c.Unsigned; name = id 13 }) ∷ i.Field (record { is_ghost = true; is_volatile = true; ty = e.Claim; name = id 19 }) ∷ i.Invariant (record { place = at 21; property = e.Name (id 23) }) ∷ [] }) ∷ [], 4, placed 27 [])
unfolding reads read links climbs read_rule first first_rule low low_rule is_empty
attributed_holds = refl

-- unsigned long long a(int a, struct a *a _(ghost \claim a)) _(requires a) _(writes a, \span(a), \extent(a)) { ; }
abbrev contracted : List Word
contracted = Key k.Unsigned ∷ Key k.Long ∷ Key k.Long ∷ name ∷ Mark s.Open ∷ Key k.Int ∷ name ∷ Mark s.Comma ∷ Key k.Struct ∷ name ∷ Mark s.Star ∷ name ∷ Mark s.Annotation ∷ Key k.Ghost ∷ Spec w.Claim ∷ name ∷ Mark s.Close ∷ Mark s.Close ∷ Mark s.Annotation ∷ Key k.Requires ∷ name ∷ Mark s.Close ∷ Mark s.Annotation ∷ Key k.Writes ∷ name ∷ Mark s.Comma ∷ Spec w.Span ∷ Mark s.Open ∷ name ∷ Mark s.Close ∷ Mark s.Comma ∷ Spec w.Extent ∷ Mark s.Open ∷ name ∷ Mark s.Close ∷ Mark s.Close ∷ Mark s.BraceOpen ∷ Mark s.Semicolon ∷ Mark s.BraceClose ∷ []

contracted_holds : reads language 5 Program (placed 1 contracted) ≡ Ok (i.Function (record { place = at 1; value = Some (e.Integer c.UnsignedLongLong); name = id 4; parameters = record { ty = e.Integer c.Int; name = id 7 } ∷ record { ty = e.Pointer (id 10); name = id 12 } ∷ []; ghost_parameters = record { ty = e.Claim; name = id 16 } ∷ []; contract = i.Holds (at 19) conditions.Requires (e.Name (id 21)) ∷ i.Writes (at 23) (i.Thing (e.Name (id 25)) ∷ i.SpanOf (at 27) (e.Name (id 29)) ∷ i.ExtentOf (at 32) (e.Name (id 34)) ∷ []) ∷ []; body = record { start = at 37; all = st.More (st.Skip (at 38)) st.Empty; end = at 39 } }) ∷ [], 5, placed 40 [])
unfolding reads read links climbs read_rule first first_rule low low_rule is_empty
contracted_holds = refl
