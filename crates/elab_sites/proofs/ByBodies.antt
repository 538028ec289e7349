-- Statements by the statements that stand in them: what they tell and declare, and how large they are.
use Rattle.std.proofs.Common.{◌≡◌, ℕ, zero, suc, ◌+◌, ◌<◌, ◌≤◌, refl, ◌∙◌, ap, append-nil, List, [], ◌∷◌, ◌++◌, map, get_or, length, arith}
use Rattle.std.specs.Prelude.{flat_map}
use Rattle.c_syntax.specs.declared.ghosts.GhostStmt.{GhostStmt}
use Rattle.c_syntax.specs.declared.statements.Stmt.{Stmt}
use Rattle.c_syntax.specs.Ghosts as g
use Rattle.c_syntax.specs.Ghosts.{GStm, GStms}
use Rattle.c_syntax.specs.Grammar.{ghosts_of, stms_of}
use Rattle.c_syntax.specs.Statements as st
use Rattle.c_syntax.specs.Statements.{Stm, Stms}
use Rattle.c_syntax.specs.Views.{stm, ghost}
use Rattle.typing_spec.specs.Contexts.{Variable}
use Rattle.typed_program.specs.Numbers.{Around}
use Rattle.typed_program.specs.Sites.{Occurrence, invariants_say, ghost_occurrences, ghosts_occurrences, occurrences, all_occurrences}
use Rattle.typed_program.specs.Variables.{ghost_declared, ghosts_declared, declared, all_declared}
use Rattle.elab_sites.specs.Bodies.{listed, ghosts_listed, body, else_body, ghost_body, ghost_else_body, tells, ghost_tells, declares, ghost_declares}

-- ---- rows as lists

pub listed_of : (ss : List Stm) → listed (stms_of ss) ≡ ss
listed_of [] = refl
listed_of (s ∷ ss) = ap (λ (xs : List Stm). s ∷ xs) (listed_of ss)

listed_back : (ss : Stms) → stms_of (listed ss) ≡ ss
listed_back st.Empty = refl
listed_back (st.More s ss) = ap (st.More s) (listed_back ss)

pub ghosts_listed_of : (ss : List GStm) → ghosts_listed (ghosts_of ss) ≡ ss
ghosts_listed_of [] = refl
ghosts_listed_of (s ∷ ss) = ap (λ (xs : List GStm). s ∷ xs) (ghosts_listed_of ss)

ghosts_listed_back : (ss : GStms) → ghosts_of (ghosts_listed ss) ≡ ss
ghosts_listed_back g.Empty = refl
ghosts_listed_back (g.More s ss) = ap (g.More s) (ghosts_listed_back ss)

twice_nil : {Z : Type 0} (zs : List Z) → (zs ++ []) ++ [] ≡ zs
twice_nil zs = append-nil (zs ++ []) ∙ append-nil zs

both_nil : {Z : Type 0} (ys zs : List Z) → (ys ++ []) ++ (zs ++ []) ≡ ys ++ zs
both_nil ys zs = λ i. append-nil ys i ++ append-nil zs i

-- ---- what statements tell

pub ghost_told : (a : Around) (f : ℕ) (s : GStm) → ghost_tells a f s ++ (ghosts_occurrences a f (ghosts_of (ghost_body s)) ++ ghosts_occurrences a f (ghosts_of (ghost_else_body s))) ≡ ghost_occurrences a f s
ghost_told a f (g.Block p ss) = append-nil _ ∙ ap (ghosts_occurrences a f) (ghosts_listed_back ss)
ghost_told a f (g.Declare p ty x r) = append-nil _
ghost_told a f (g.Assign p x q r) = append-nil _
ghost_told a f (g.If p x s) = twice_nil (ghost_occurrences a f s)
ghost_told a f (g.IfElse p x s t) = both_nil (ghost_occurrences a f s) (ghost_occurrences a f t)
ghost_told a f _ = refl

pub told : (a : Around) (f : ℕ) (s : Stm) → tells a f s ++ (all_occurrences a f (stms_of (body s)) ++ all_occurrences a f (stms_of (else_body s))) ≡ occurrences a f s
told a f (st.Block p ss q) = append-nil _ ∙ ap (all_occurrences a f) (listed_back ss)
told a f (st.If p x s) = twice_nil (occurrences a f s)
told a f (st.IfElse p x s t) = both_nil (occurrences a f s) (occurrences a f t)
told a f (st.While p x is s) = ap (λ (ts : List Occurrence). invariants_say a is ++ ts) (twice_nil (occurrences a f s))
told a f (st.Do p is s q x) = ap (λ (ts : List Occurrence). invariants_say a is ++ ts) (twice_nil (occurrences a f s))
told a f (st.For p u x v is s) = ap (λ (ts : List Occurrence). invariants_say a is ++ ts) (twice_nil (occurrences a f s))
told a f (st.Ghost p s) = append-nil (ghost_occurrences a f s)
told a f (st.Unwrapping p x ss q) = append-nil _ ∙ ap (all_occurrences a f) (listed_back ss)
told a f (st.Atomic p xs ss q) = append-nil _ ∙ ap (all_occurrences a f) (listed_back ss)
told a f _ = refl

-- ---- what they declare

ghosts_each : (ss : GStms) → flat_map ghost_declared (ghosts_listed ss) ≡ ghosts_declared ss
ghosts_each g.Empty = refl
ghosts_each (g.More s ss) = ap (λ (vs : List Variable). ghost_declared s ++ vs) (ghosts_each ss)

each : (ss : Stms) → flat_map declared (listed ss) ≡ all_declared ss
each st.Empty = refl
each (st.More s ss) = ap (λ (vs : List Variable). declared s ++ vs) (each ss)

pub ghost_declared_is : (s : GStm) → ghost_declares s ++ (flat_map ghost_declared (ghost_body s) ++ flat_map ghost_declared (ghost_else_body s)) ≡ ghost_declared s
ghost_declared_is (g.Block p ss) = append-nil _ ∙ ghosts_each ss
ghost_declared_is (g.If p x s) = twice_nil (ghost_declared s)
ghost_declared_is (g.IfElse p x s t) = both_nil (ghost_declared s) (ghost_declared t)
ghost_declared_is _ = refl

pub declared_is : (s : Stm) → declares s ++ (flat_map declared (body s) ++ flat_map declared (else_body s)) ≡ declared s
declared_is (st.Block p ss q) = append-nil _ ∙ each ss
declared_is (st.If p x s) = twice_nil (declared s)
declared_is (st.IfElse p x s t) = both_nil (declared s) (declared t)
declared_is (st.While p x is s) = twice_nil (declared s)
declared_is (st.Do p is s q x) = twice_nil (declared s)
declared_is (st.For p u x v is s) = twice_nil (declared s)
declared_is (st.Ghost p s) = append-nil (ghost_declared s)
declared_is (st.Unwrapping p x ss q) = append-nil _ ∙ each ss
declared_is (st.Atomic p xs ss q) = append-nil _ ∙ each ss
declared_is _ = refl

-- ---- how large they are

abbrev mutual
  ghost_size : GStm → ℕ
  ghost_size (g.Block p ss) = ghost_sizes ss + 1
  ghost_size (g.If p x s) = ghost_size s + 1
  ghost_size (g.IfElse p x s t) = ghost_size s + ghost_size t + 1
  ghost_size _ = 1

  ghost_sizes : GStms → ℕ
  ghost_sizes g.Empty = 0
  ghost_sizes (g.More s ss) = ghost_size s + ghost_sizes ss

abbrev pub ghost_total : List GStm → ℕ
ghost_total [] = 0
ghost_total (s ∷ ss) = ghost_size s + ghost_total ss

ghosts_listed_total : (ss : GStms) → ghost_total (ghosts_listed ss) ≡ ghost_sizes ss
ghosts_listed_total g.Empty = refl
ghosts_listed_total (g.More s ss) = ap (λ (n : ℕ). ghost_size s + n) (ghosts_listed_total ss)

ghost_body_less : (s : GStm) → ghost_total (ghost_body s) < ghost_size s
ghost_body_less (g.Block p ss) = let e = ghosts_listed_total ss in omega (arith, e)
ghost_body_less _ = omega arith

ghost_else_less : (s : GStm) → ghost_total (ghost_else_body s) < ghost_size s
ghost_else_less (g.IfElse p x s t) = omega arith
ghost_else_less _ = omega arith

one_ghost : (all : List GhostStmt) (i : ℕ) (y : GhostStmt) → i < length all → y ≡ get_or all i y → ghost_size (ghost y) ≤ ghost_total (map ghost all)
one_ghost [] i y lt is = absurd (omega arith)
one_ghost (x ∷ xs) zero y lt is = let e = ap (λ (z : GhostStmt). ghost_size (ghost z)) is in omega (arith, e)
one_ghost (x ∷ xs) (suc i) y lt is = let h = one_ghost xs i y (omega arith) is in omega (arith, h)

-- what stands in one of several is less than these
pub ghost_body_smaller : (all : List GhostStmt) (i : ℕ) (y : GhostStmt) → i < length all → y ≡ get_or all i y → (inner : List GStm) → inner ≡ ghost_body (ghost y) → ghost_total inner < ghost_total (map ghost all)
ghost_body_smaller all i y lt is inner e = omega (arith, one_ghost all i y lt is, ghost_body_less (ghost y), ap ghost_total e)

pub ghost_else_smaller : (all : List GhostStmt) (i : ℕ) (y : GhostStmt) → i < length all → y ≡ get_or all i y → (inner : List GStm) → inner ≡ ghost_else_body (ghost y) → ghost_total inner < ghost_total (map ghost all)
ghost_else_smaller all i y lt is inner e = omega (arith, one_ghost all i y lt is, ghost_else_less (ghost y), ap ghost_total e)

abbrev mutual
  size : Stm → ℕ
  size (st.Block p ss q) = sizes ss + 1
  size (st.If p x s) = size s + 1
  size (st.IfElse p x s t) = size s + size t + 1
  size (st.While p x is s) = size s + 1
  size (st.Do p is s q x) = size s + 1
  size (st.For p u x v is s) = size s + 1
  size (st.Unwrapping p x ss q) = sizes ss + 1
  size (st.Atomic p xs ss q) = sizes ss + 1
  size _ = 1

  sizes : Stms → ℕ
  sizes st.Empty = 0
  sizes (st.More s ss) = size s + sizes ss

abbrev pub total : List Stm → ℕ
total [] = 0
total (s ∷ ss) = size s + total ss

listed_total : (ss : Stms) → total (listed ss) ≡ sizes ss
listed_total st.Empty = refl
listed_total (st.More s ss) = ap (λ (n : ℕ). size s + n) (listed_total ss)

body_less : (s : Stm) → total (body s) < size s
body_less (st.Block p ss q) = let e = listed_total ss in omega (arith, e)
body_less (st.Unwrapping p x ss q) = let e = listed_total ss in omega (arith, e)
body_less (st.Atomic p xs ss q) = let e = listed_total ss in omega (arith, e)
body_less _ = omega arith

else_less : (s : Stm) → total (else_body s) < size s
else_less (st.IfElse p x s t) = omega arith
else_less _ = omega arith

one_statement : (all : List Stmt) (i : ℕ) (y : Stmt) → i < length all → y ≡ get_or all i y → size (stm y) ≤ total (map stm all)
one_statement [] i y lt is = absurd (omega arith)
one_statement (x ∷ xs) zero y lt is = let e = ap (λ (z : Stmt). size (stm z)) is in omega (arith, e)
one_statement (x ∷ xs) (suc i) y lt is = let h = one_statement xs i y (omega arith) is in omega (arith, h)

pub body_smaller : (all : List Stmt) (i : ℕ) (y : Stmt) → i < length all → y ≡ get_or all i y → (inner : List Stm) → inner ≡ body (stm y) → total inner < total (map stm all)
body_smaller all i y lt is inner e = omega (arith, one_statement all i y lt is, body_less (stm y), ap total e)

pub else_smaller : (all : List Stmt) (i : ℕ) (y : Stmt) → i < length all → y ≡ get_or all i y → (inner : List Stm) → inner ≡ else_body (stm y) → total inner < total (map stm all)
else_smaller all i y lt is inner e = omega (arith, one_statement all i y lt is, else_less (stm y), ap total e)
