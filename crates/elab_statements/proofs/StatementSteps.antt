-- Statements that hold others, from what their parts are typed as.
use Rattle.std.proofs.Common.{false, ◌≡◌, ℕ, List, sym, ap, ◌∙◌, map, Option}
use Rattle.c_syntax.specs.declared.token.Span.{Span}
use Rattle.c_syntax.specs.declared.statements.Invariant.{Invariant}
use Rattle.c_syntax.specs.declared.statements.Stmt.{Stmt}
use Rattle.c_syntax.specs.Expressions.{Exp, Assignment}
use Rattle.c_syntax.specs.Statements as st
use Rattle.c_syntax.specs.Statements.{Inv, Stm, Stms}
use Rattle.c_syntax.specs.Views as view
use Rattle.elab_annotations.specs.Views.{Several}
use Rattle.typed_program.specs.Codes.{code}
use Rattle.typed_program.specs.Numbers.{Around, struct_at}
use Rattle.typed_program.specs.Statements as s
use Rattle.typed_program.specs.Statements.{Counters, plus_formulas}
use Rattle.typed_program.specs.Trees as t
use Rattle.elab_statements.specs.Rows.{Typed, TypedInner, nothing, single, branched, typed_inners}
use Rattle.elab_clauses.specs.Numberings.{Numbering, said_invariants}
use Rattle.elab_statements.specs.Shaped.{typed_statement, typed_statements, while_row, do_row, for_row, unwrapping_row}
use Rattle.elab_statements.proofs.Forms.{if_law, if_else_law, while_law, do_law, for_law, unwrapping_law, atomic_law}

-- before this formula, and what stood before it otherwise
abbrev pub from : Counters → ℕ → Counters
from n i = record n { formulas = i }

-- what a statement is typed as, which is of this form
pub form : (k : Numbering) (a : Around) (n : Counters) (x y : Stmt) → x ≡ y → typed_statement k a n (view.stm y) ≡ typed_statement k a n (view.stm x)
form k a n x y e = sym (ap (λ (z : Stmt). typed_statement k a n (view.stm z)) e)

pub told_here : (j : Numbering) {a k : Around} (i : ℕ) {xs ys : List Invariant} → a ≡ k → xs ≡ ys → said_invariants j a i (map view.invariant xs) ≡ said_invariants j k i (map view.invariant ys)
told_here j {a} {k} i {xs} {ys} e f = ap (λ (b : Around). said_invariants j b i (map view.invariant xs)) e ∙ ap (λ (zs : List Invariant). said_invariants j k i (map view.invariant zs)) f

pub if_step : (j : Numbering) {a k : Around} (n : Counters) (p : Span) (x : Exp) (y : Stm) {inner : Typed} → a ≡ k → inner ≡ typed_statement j k n y → branched p.line false (code a x) inner (nothing inner.next) ≡ typed_statement j k n (st.If p x y)
if_step j {a} {k} n p x y e f = (λ i. branched p.line false (code (e i) x) (f i) (nothing ((f i).next))) ∙ if_law j k n p x y

pub if_else_step : (j : Numbering) {a k : Around} (n : Counters) (p : Span) (x : Exp) (y z : Stm) {yes no : Typed} → a ≡ k → yes ≡ typed_statement j k n y → no ≡ typed_statement j k yes.next z → branched p.line false (code a x) yes no ≡ typed_statement j k n (st.IfElse p x y z)
if_else_step j {a} {k} n p x y z {yes} e f g = (λ i. branched p.line false (code (e i) x) yes (g i)) ∙ (ap (λ (w : Typed). branched p.line false (code k x) w (typed_statement j k w.next z)) f ∙ if_else_law j k n p x y z)

pub while_step : (j : Numbering) {a k : Around} (n : Counters) (p : Span) (x : Exp) (is : List Inv) (y : Stm) {told : Several} {inner : Typed} → a ≡ k → told ≡ said_invariants j k n.formulas is → inner ≡ typed_statement j k (from n told.next) y
    → while_row p.line told.specs (code a x) inner ≡ typed_statement j k n (st.While p x is y)
while_step j {a} {k} n p x is y {told} e f g = (λ i. while_row p.line told.specs (code (e i) x) (g i)) ∙ (ap (λ (r : Several). while_row p.line r.specs (code k x) (typed_statement j k (from n r.next) y)) f ∙ while_law j k n p x is y)

pub do_step : (j : Numbering) {a k : Around} (n : Counters) (p : Span) (is : List Inv) (y : Stm) (q : Span) (x : Exp) {told : Several} {inner : Typed} → a ≡ k → told ≡ said_invariants j k n.formulas is → inner ≡ typed_statement j k (from n told.next) y
    → do_row p.line told.specs inner q.line (code a x) ≡ typed_statement j k n (st.Do p is y q x)
do_step j {a} {k} n p is y q x {told} e f g = (λ i. do_row p.line told.specs (g i) q.line (code (e i) x)) ∙ (ap (λ (r : Several). do_row p.line r.specs (typed_statement j k (from n r.next) y) q.line (code k x)) f ∙ do_law j k n p is y q x)

pub for_step : (j : Numbering) {a k : Around} (n : Counters) (p : Span) (u : Option Assignment) (x : Exp) (v : Option Assignment) (is : List Inv) (y : Stm) {told : Several} {inner : Typed} → a ≡ k → told ≡ said_invariants j k n.formulas is → inner ≡ typed_statement j k (from n told.next) y
    → for_row p.line (record { statements = s.maybe_assigned a u; next = n }) told.specs (code a x) inner (s.maybe_assigned a v) ≡ typed_statement j k n (st.For p u x v is y)
for_step j {a} {k} n p u x v is y {told} e f g =
    (λ i. for_row p.line (record { statements = s.maybe_assigned (e i) u; next = n }) told.specs (code (e i) x) (g i) (s.maybe_assigned (e i) v))
    ∙ (ap (λ (r : Several). for_row p.line (record { statements = s.maybe_assigned k u; next = n }) r.specs (code k x) (typed_statement j k (from n r.next) y) (s.maybe_assigned k v)) f ∙ for_law j k n p u x v is y)

pub unwrapping_step : (j : Numbering) {a k : Around} (n : Counters) (p : Span) (x : Exp) (ss : Stms) (q : Span) {m : Counters} {inner : Typed} → a ≡ k → m ≡ plus_formulas n 1 → inner ≡ typed_statements j k m ss
    → unwrapping_row p.line (struct_at a x) n.formulas (code a x) inner ≡ typed_statement j k n (st.Unwrapping p x ss q)
unwrapping_step j {a} {k} n p x ss q e f g = (λ i. unwrapping_row p.line (struct_at (e i) x) n.formulas (code (e i) x) (g i)) ∙ (ap (λ (w : Counters). unwrapping_row p.line (struct_at k x) n.formulas (code k x) (typed_statements j k w ss)) f ∙ unwrapping_law j k n p x ss q)

pub atomic_step : (j : Numbering) {a k : Around} (n : Counters) (p : Span) (xs : List Exp) (ss : Stms) (q : Span) {inner : TypedInner} → a ≡ k → inner ≡ typed_inners k n ss
    → single inner.next (t.Do p.line (t.Atomic (map (s.listed a) xs) inner.statements)) ≡ typed_statement j k n (st.Atomic p xs ss q)
atomic_step j {a} {k} n p xs ss q e g = (λ i. single ((g i).next) (t.Do p.line (t.Atomic (map (s.listed (e i)) xs) ((g i).statements)))) ∙ atomic_law j k n p xs ss q
