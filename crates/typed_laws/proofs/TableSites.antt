-- The claims that statements tell are as many as are counted in them, and of their function; contracts tell none.
use Rattle.std.specs.Prelude.{ℕ, zero, suc, ◌+◌, List, [], ◌∷◌, ◌++◌, length, map, flat_map, Option, Some, None, slice_get}
use Rattle.std.proofs.Common.{◌≡◌, refl, sym, ap, ◌∙◌, inl, inr, arith}
use Rattle.std.proofs.lemmas.Option.{none-some, same_Some}
use Rattle.std.proofs.lemmas.List.{length-append}
use Rattle.c_syntax.specs.Ghosts as g
use Rattle.c_syntax.specs.Ghosts.{GhostRhs, GStm, GStms}
use Rattle.c_syntax.specs.Statements as st
use Rattle.c_syntax.specs.Statements.{Inv, Stm, Stms}
use Rattle.c_syntax.specs.Items as i
use Rattle.c_syntax.specs.Items.{Clause, FunctionTree, Item}
use Rattle.typed_program.specs.Trees.{Spec}
use Rattle.typed_program.specs.Numbers.{Around}
use Rattle.typed_program.specs.Statements.{in_maybe, in_ghost, in_ghosts, in_statement, in_statements, known_behind, known_behind_ghost}
use Rattle.typed_program.specs.Sites.{Site, Occurrence, Says, Makes, says, invariants_say, made, ghost_occurrences, ghosts_occurrences, occurrences, all_occurrences}
use Rattle.typed_program.specs.Tables.{around_function, in_writes, listed_items, clause_occurrences, function_occurrences, sites_told}
use Rattle.typed_laws.proofs.TableLists.{in_two}

pub sites_append : (xs ys : List Occurrence) → sites_told (xs ++ ys) ≡ sites_told xs ++ sites_told ys
sites_append [] ys = refl
sites_append (Says x ∷ xs) ys = sites_append xs ys
sites_append (Makes x ∷ xs) ys = ap (λ (zs : List Site). x ∷ zs) (sites_append xs ys)

-- so many claims are told, each as one of the function with number f
abbrev pub Sited : ℕ → ℕ → List Occurrence → Type 0
Sited f n ts = (length (sites_told ts) ≡ n) × ((j : ℕ) (x : Site) → slice_get (sites_told ts) j ≡ Some x → x.function ≡ f)

no_sites : (f : ℕ) (ts : List Occurrence) → sites_told ts ≡ [] → Sited f 0 ts
no_sites f ts h = (ap length h, λ j x e. absurd (none-some x (ap (λ (zs : List Site). slice_get zs j) (sym h) ∙ e)))

both_sited : (f n m : ℕ) (xs ys : List Occurrence) → Sited f n xs → Sited f m ys → Sited f (n + m) (xs ++ ys)
both_sited f n m xs ys h k =
    let same = sites_append xs ys in (
      ap length same ∙ omega (arith, length-append (sites_told xs) (sites_told ys), h.0, k.0),
      λ j x e. elim (in_two (sites_told xs) (sites_told ys) j x (ap (λ (zs : List Site). slice_get zs j) (sym same) ∙ e)) [ inl d ↦ h.1 j x d | inr d ↦ k.1 d.0 x d.2 ],
    )

after_none : (f n : ℕ) (ts : List Occurrence) → Sited f n ts → Sited f (0 + n) ts
after_none f n ts h = (omega (arith, h.0), h.1)

-- ---- statements

made_sited : (a : Around) (f line : ℕ) (o : Option GhostRhs) → Sited f (in_maybe o).sites (made a f line o)
made_sited a f line None = no_sites f [] refl
made_sited a f line (Some (g.Value x)) = no_sites f [] refl
made_sited a f line (Some (g.MakeClaim p xs x)) = (refl, one)
  where
    one : (j : ℕ) (z : Site) → slice_get (sites_told (made a f line (Some (g.MakeClaim p xs x)))) j ≡ Some z → z.function ≡ f
    one zero z e = sym (ap (λ (y : Site). y.function) (same_Some _ z e))
    one (suc j) z e = absurd (none-some z e)

mutual
  pub ghost_sited : (a : Around) (f : ℕ) (s : GStm) → Sited f (in_ghost s).sites (ghost_occurrences a f s)
  ghost_sited a f (g.Block p ss) = ghosts_sited a f ss
  ghost_sited a f (g.Declare p ty x r) = made_sited a f p.line r
  ghost_sited a f (g.Assign p x q r) = made_sited a f p.line (Some r)
  ghost_sited a f (g.If p x s) = ghost_sited a f s
  ghost_sited a f (g.IfElse p x s u) = both_sited f (in_ghost s).sites (in_ghost u).sites (ghost_occurrences a f s) (ghost_occurrences a f u) (ghost_sited a f s) (ghost_sited a f u)
  ghost_sited a f _ = no_sites f [] refl

  pub ghosts_sited : (a : Around) (f : ℕ) (ss : GStms) → Sited f (in_ghosts ss).sites (ghosts_occurrences a f ss)
  ghosts_sited a f g.Empty = no_sites f [] refl
  ghosts_sited a f (g.More s ss) =
      both_sited f (in_ghost s).sites (in_ghosts ss).sites (ghost_occurrences a f s) (ghosts_occurrences (known_behind_ghost a s) f ss) (ghost_sited a f s) (ghosts_sited (known_behind_ghost a s) f ss)

pub invariants_silent : (a : Around) (xs : List Inv) → sites_told (invariants_say a xs) ≡ []
invariants_silent a [] = refl
invariants_silent a (x ∷ xs) = invariants_silent a xs

-- a body behind its invariants
looped : (a : Around) (f n : ℕ) (xs : List Inv) (ts : List Occurrence) → Sited f n ts → Sited f (0 + n) (invariants_say a xs ++ ts)
looped a f n xs ts h = both_sited f 0 n (invariants_say a xs) ts (no_sites f (invariants_say a xs) (invariants_silent a xs)) h

mutual
  pub statement_sited : (a : Around) (f : ℕ) (s : Stm) → Sited f (in_statement s).sites (occurrences a f s)
  statement_sited a f (st.Block p ss q) = statements_sited a f ss
  statement_sited a f (st.If p x s) = statement_sited a f s
  statement_sited a f (st.IfElse p x s u) = both_sited f (in_statement s).sites (in_statement u).sites (occurrences a f s) (occurrences a f u) (statement_sited a f s) (statement_sited a f u)
  statement_sited a f (st.While p x is s) = looped a f (in_statement s).sites is (occurrences a f s) (statement_sited a f s)
  statement_sited a f (st.Do p is s q x) = looped a f (in_statement s).sites is (occurrences a f s) (statement_sited a f s)
  statement_sited a f (st.For p u x v is s) = looped a f (in_statement s).sites is (occurrences a f s) (statement_sited a f s)
  statement_sited a f (st.Assert p x) = no_sites f (says a x) refl
  statement_sited a f (st.Ghost p s) = ghost_sited a f s
  statement_sited a f (st.Unwrapping p x ss q) = after_none f (in_statements ss).sites (all_occurrences a f ss) (statements_sited a f ss)
  statement_sited a f (st.Atomic p xs ss q) = statements_sited a f ss
  statement_sited a f _ = no_sites f [] refl

  pub statements_sited : (a : Around) (f : ℕ) (ss : Stms) → Sited f (in_statements ss).sites (all_occurrences a f ss)
  statements_sited a f st.Empty = no_sites f [] refl
  statements_sited a f (st.More s ss) =
      both_sited f (in_statement s).sites (in_statements ss).sites (occurrences a f s) (all_occurrences (known_behind a s) f ss) (statement_sited a f s) (statements_sited (known_behind a s) f ss)

-- ---- contracts

says_silent : (xs : List Spec) → sites_told (map Says xs) ≡ []
says_silent [] = refl
says_silent (x ∷ xs) = says_silent xs

clause_silent : (a : Around) (x : Clause) → sites_told (clause_occurrences a x) ≡ []
clause_silent a (i.Holds p h x) = refl
clause_silent a (i.Writes p xs) = says_silent (listed_items (in_writes a) 0 xs)

contract_silent : (a : Around) (xs : List Clause) → sites_told (flat_map (clause_occurrences a) xs) ≡ []
contract_silent a [] = refl
contract_silent a (x ∷ xs) =
    sites_append (clause_occurrences a x) (flat_map (clause_occurrences a) xs) ∙ (ap (λ (zs : List Site). zs ++ sites_told (flat_map (clause_occurrences a) xs)) (clause_silent a x) ∙ contract_silent a xs)

-- the claims that a function tells are those of its body
pub function_sites : (items : List Item) (f : ℕ) (h : FunctionTree) → sites_told (function_occurrences items f h) ≡ sites_told (all_occurrences (around_function items h) f h.body.all)
function_sites items f h =
    let a = around_function items h in
    sites_append (flat_map (clause_occurrences a) h.contract) (all_occurrences a f h.body.all) ∙ ap (λ (zs : List Site). zs ++ sites_told (all_occurrences a f h.body.all)) (contract_silent a h.contract)
