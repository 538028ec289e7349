-- All annotations of a typed source have their quantifiers in order.
use Rattle.std.specs.Prelude.{ℕ, ◌+◌, Bool, true, false, not, ◌&&◌, if◌then◌else◌, List, [], ◌∷◌, ◌++◌, map, flat_map, Option, Some, None, Contains, slice_get, IsTrue}
use Rattle.std.proofs.Common.{◌≡◌, refl, sym, ap, subst, ◌∙◌}
use Rattle.c_syntax.specs.declared.token.Span.{Span}
use Rattle.c_syntax.specs.declared.tree.BinaryOperator.TheVariants as op
use Rattle.c_syntax.specs.declared.tree.Condition.TheVariants as conditions
use Rattle.c_syntax.specs.declared.tree.ListWord.TheVariants as lists
use Rattle.c_syntax.specs.Expressions as e
use Rattle.c_syntax.specs.Expressions.{Id, Ty, Exp, Exps, Rhs, Effect, Assignment}
use Rattle.c_syntax.specs.Grammar.{first_place}
use Rattle.c_syntax.specs.Ghosts as g
use Rattle.c_syntax.specs.Ghosts.{GStm, GStms}
use Rattle.c_syntax.specs.Statements as st
use Rattle.c_syntax.specs.Statements.{Inv, Stm, Stms}
use Rattle.c_syntax.specs.Items as i
use Rattle.c_syntax.specs.Items.{Member, Written, Clause, StructTree, Item}
use Rattle.object_types.specs.Sets.{every}
use Rattle.typing_spec.specs.Declarations.{structs, has_dynamic_owns, has_volatile_owns, is_approval}
use Rattle.typing_spec.specs.Contexts as texts
use Rattle.typing_spec.specs.Contexts.{Context, ghost, with_text, inside_unwrapping}
use Rattle.typing_spec.specs.Pieces as pieces
use Rattle.typing_spec.specs.Pieces.{Piece, Statement, WritesItem, expression, if_some, assignment, following, in_struct, in_function, member, in_condition}
use Rattle.typing_spec.specs.First.{IsWellTyped}
use Rattle.typing_spec.specs.TypeLaws.{Quiet}
use Rattle.typed_program.specs.Trees as t
use Rattle.typed_program.specs.Trees.{Spec, Stmt, Stmts, NoStmt, AStmt, Shape}
use Rattle.typed_program.specs.Numbers.{Around}
use Rattle.typed_program.specs.Annotations.{formulas, spec, arguments, mine}
use Rattle.typed_program.specs.Shapes.{Sorts, numbered}
use Rattle.typed_program.specs.Codes as codes
use Rattle.typed_program.specs.Statements.{Counters, plus, plus_formulas, one, append, known_behind, known_behind_ghost, ghost_row, ghost_rows, row, rows, in_ghost, in_statement, in_invariants, invariants, defined, assigned, assigned_by, maybe_assigned}
use Rattle.typed_program.specs.Tables.{item_of, each_clause, clause_formulas, in_writes, in_clause, mutable_items, precondition, postcondition, listed_items, written, around_struct, around_function, invariants_of, each_invariant, struct, struct_table, start, no_sorts, contract_formulas, sorts_of, function, numbered_statement, numbered_row, numbered_clause, numbered_struct, shapes, program}
use Rattle.typed_laws.proofs.Basics.{and_both, and_left, and_right, contained, every_append, every_map}
use Rattle.typed_laws.proofs.Ghosts.{alone}
use Rattle.typed_laws.proofs.Quiet.{quiet_left, quiet_right, quiet_rest}
use Rattle.typed_laws.proofs.Facts.{FunctionOf}
use Rattle.typed_laws.proofs.Entry.{members_quiet, body_quiet}
use Rattle.typed_laws.proofs.TableLists.{mapped}
use Rattle.typed_laws.proofs.StructTables.{row_struct}
use Rattle.typed_laws.proofs.FunctionTables.{functions_law}
use Rattle.typed_laws.proofs.FitShapes.{fit, all_fit, quiet_fit}
use Rattle.typed_laws.proofs.Annotated.{contract_quiet}
use Rattle.text_laws.proofs.Order.{is_ordered}
use Rattle.text_laws.proofs.SourceOrder.{spec_ordered}

-- ---- of statements

abbrev pub action_ordered : t.Action → Bool
action_ordered (t.AssertSpec x) = is_ordered false x
action_ordered _ = true

abbrev mutual
  pub stmt_ordered : Stmt → Bool
  stmt_ordered (t.Do line x) = action_ordered x
  stmt_ordered (t.If line in_ghost x a b) = row_ordered a && row_ordered b
  stmt_ordered (t.While line is x a) = every (is_ordered false) is && row_ordered a
  stmt_ordered (t.DoWhile line is a tested x) = every (is_ordered false) is && row_ordered a
  stmt_ordered (t.Unwrapping line ty q x a) = row_ordered a
  stmt_ordered (t.Call line to c f xs) = true
  stmt_ordered (t.Return line x) = true

  pub row_ordered : Stmts → Bool
  row_ordered NoStmt = true
  row_ordered (AStmt x xs) = stmt_ordered x && row_ordered xs

-- ---- of a program

pub record InOrder (p : t.Program) : Type 0 where
  pub invariants : (k : ℕ) (s : t.StructInfo) → slice_get p.structs k ≡ Some s → IsTrue (every (is_ordered false) s.invariants)
  pub fixed_sets : (k : ℕ) (s : t.StructInfo) → slice_get p.structs k ≡ Some s → IsTrue (every (is_ordered false) s.mine)
  pub preconditions : (k : ℕ) (f : t.FunctionInfo) → slice_get p.functions k ≡ Some f → IsTrue (every (λ (c : t.Clause). is_ordered false c.spec) f.preconditions)
  pub postconditions : (k : ℕ) (f : t.FunctionInfo) → slice_get p.functions k ≡ Some f → IsTrue (every (λ (c : t.Clause). is_ordered false c.spec) f.postconditions)
  pub writes : (k : ℕ) (f : t.FunctionInfo) → slice_get p.functions k ≡ Some f → IsTrue (every (is_ordered false) f.writes)
  pub bodies : (k : ℕ) (f : t.FunctionInfo) → slice_get p.functions k ≡ Some f → IsTrue (row_ordered f.body)

-- ---- annotations of a source

module _ (l : List Shape) (s : Sorts) where
  abbrev test : Spec → Bool
  test w = is_ordered false (numbered l s w)

  quiet_ordered : (a : Around) (c : Context) (n : ℕ) (x : Exp) → Quiet (expression c x) → IsTrue (test (spec a n x))
  quiet_ordered a c n x quiet = spec_ordered l s a n x (quiet_fit c x quiet)

  -- structs

  arguments_ordered : (a : Around) (n : ℕ) (xs : Exps) → IsTrue (all_fit xs) → IsTrue (every test (arguments a n xs))
  arguments_ordered a n e.Stop h = refl
  arguments_ordered a n (e.With x xs) h = and_both (test (spec a n x)) (every test (arguments a (n + formulas x) xs)) (spec_ordered l s a n x (and_left (fit x) (all_fit xs) h)) (arguments_ordered a (n + formulas x) xs (and_right (fit x) (all_fit xs) h))

  mine_ordered : (a : Around) (n : ℕ) (x : Exp) → IsTrue (fit x) → IsTrue (every test (mine a n x))
  mine_ordered a n (e.Group p x) h = mine_ordered a n x h
  mine_ordered a n (e.Binary p op.And x y) h = every_append test (mine a n x) (mine a (n + formulas x) y) (mine_ordered a n x (and_left (fit x) (fit y) h)) (mine_ordered a (n + formulas x) y (and_right (fit x) (fit y) h))
  mine_ordered a n (e.Several p lists.Mine xs) h = arguments_ordered a n xs h
  mine_ordered a n (e.Several p lists.ClaimsOnly xs) h = refl
  mine_ordered a n (e.Binary p _ x y) h = refl
  mine_ordered a n _ h = refl

  each_ordered : (items : List Item) (u : StructTree) (make : ℕ → Exp → List Spec) → ((m : ℕ) (x : Exp) → Quiet (expression (in_struct items u) x) → IsTrue (every test (make m x)))
      → (m : ℕ) (ms : List Member) → Quiet (flat_map (member items u) ms) → IsTrue (every test (each_invariant make m (invariants_of ms)))
  each_ordered items u make h m [] quiet = refl
  each_ordered items u make h m (i.Field x ∷ ms) quiet = each_ordered items u make h m ms (quiet_right (member items u (i.Field x)) (flat_map (member items u) ms) quiet)
  each_ordered items u make h m (i.Invariant x ∷ ms) quiet = by (is_approval x.property) (λ k z. each_ordered items u make h k ms z) quiet
    where
      own : List Piece
      own = expression (in_struct items u) x.property

      rest : List Piece
      rest = flat_map (member items u) ms

      by : (b : Bool) → ((k : ℕ) → Quiet rest → IsTrue (every test (each_invariant make k (invariants_of ms)))) → Quiet ((if b then [] else own) ++ rest) → IsTrue (every test (each_invariant make m (if b then invariants_of ms else x ∷ invariants_of ms)))
      by true next z = next m z
      by false next z = every_append test (make m x.property) (each_invariant make (m + formulas x.property) (invariants_of ms)) (h m x.property (quiet_left own rest z)) (next (m + formulas x.property) (quiet_right own rest z))

  -- contracts

  abbrev clause_test : t.Clause → Bool
  clause_test c = test c.spec

  item_fit : (c : Context) (x : Written) → Quiet (pieces.written c x) → IsTrue (fit (item_of x))
  item_fit c (i.Thing x) quiet = quiet_fit c x quiet
  item_fit c (i.SpanOf p x) quiet = quiet_fit c x quiet
  item_fit c (i.ExtentOf p x) quiet = quiet_fit c x quiet

  module _ (c : Context) (a : Around) where
    listed_ordered : (n : ℕ) (xs : List Written) → Quiet (flat_map (λ y. WritesItem c y ∷ pieces.written c y) xs) → IsTrue (every test (listed_items a n xs))
    listed_ordered n [] quiet = refl
    listed_ordered n (x ∷ xs) quiet =
        let own = WritesItem c x ∷ pieces.written c x in
        let rest = flat_map (λ y. WritesItem c y ∷ pieces.written c y) xs in
        and_both (test (spec a n (item_of x))) (every test (listed_items a (n + formulas (item_of x)) xs)) (spec_ordered l s a n (item_of x) (item_fit c x (quiet_rest (WritesItem c x) (pieces.written c x) (quiet_left own rest quiet)))) (listed_ordered (n + formulas (item_of x)) xs (quiet_right own rest quiet))

    mutable_ordered : (make : Spec → t.Clause) → ((w : Spec) → IsTrue (test w) → IsTrue (clause_test (make w))) → (n : ℕ) (xs : List Written) → Quiet (flat_map (λ y. WritesItem c y ∷ pieces.written c y) xs) → IsTrue (every clause_test (map make (mutable_items a n xs)))
    mutable_ordered make h n [] quiet = refl
    mutable_ordered make h n (i.Thing x ∷ xs) quiet = mutable_ordered make h (n + formulas x) xs (quiet_right (WritesItem c (i.Thing x) ∷ pieces.written c (i.Thing x)) (flat_map (λ y. WritesItem c y ∷ pieces.written c y) xs) quiet)
    mutable_ordered make h n (i.SpanOf p x ∷ xs) quiet =
        let own = WritesItem c (i.SpanOf p x) ∷ pieces.written c (i.SpanOf p x) in
        let rest = flat_map (λ y. WritesItem c y ∷ pieces.written c y) xs in
        and_both (clause_test (make (t.SMutable (spec a n x)))) (every clause_test (map make (mutable_items a (n + formulas x) xs))) (h (t.SMutable (spec a n x)) (quiet_ordered a c n x (quiet_rest (WritesItem c (i.SpanOf p x)) (pieces.written c (i.SpanOf p x)) (quiet_left own rest quiet)))) (mutable_ordered make h (n + formulas x) xs (quiet_right own rest quiet))
    mutable_ordered make h n (i.ExtentOf p x ∷ xs) quiet =
        let own = WritesItem c (i.ExtentOf p x) ∷ pieces.written c (i.ExtentOf p x) in
        let rest = flat_map (λ y. WritesItem c y ∷ pieces.written c y) xs in
        and_both (clause_test (make (t.SMutable (spec a n x)))) (every clause_test (map make (mutable_items a (n + formulas x) xs))) (h (t.SMutable (spec a n x)) (quiet_ordered a c n x (quiet_rest (WritesItem c (i.ExtentOf p x)) (pieces.written c (i.ExtentOf p x)) (quiet_left own rest quiet)))) (mutable_ordered make h (n + formulas x) xs (quiet_right own rest quiet))

  module _ (c : Context) (a : Around) where
    precondition_ordered : (n : ℕ) (x : Clause) → Quiet (pieces.clause c x) → IsTrue (every clause_test (precondition a n x))
    precondition_ordered n (i.Holds p conditions.Requires x) quiet = alone _ (quiet_ordered (in_clause conditions.Requires a) (in_condition conditions.Requires c) n x quiet)
    precondition_ordered n (i.Holds p conditions.Maintains x) quiet = alone _ (quiet_ordered (in_clause conditions.Maintains a) (in_condition conditions.Maintains c) n x quiet)
    precondition_ordered n (i.Holds p conditions.Ensures x) quiet = refl
    precondition_ordered n (i.Writes p xs) quiet = mutable_ordered (with_text texts.Writes c) (in_writes a) (λ w. record { line = p.line; spec = w }) (λ w h. h) n xs quiet

    postcondition_ordered : (n : ℕ) (x : Clause) → Quiet (pieces.clause c x) → IsTrue (every clause_test (postcondition a n x))
    postcondition_ordered n (i.Holds p conditions.Ensures x) quiet = alone _ (quiet_ordered (in_clause conditions.Ensures a) (in_condition conditions.Ensures c) n x quiet)
    postcondition_ordered n (i.Holds p conditions.Maintains x) quiet = alone _ (quiet_ordered (in_clause conditions.Maintains a) (in_condition conditions.Maintains c) n x quiet)
    postcondition_ordered n (i.Holds p conditions.Requires x) quiet = refl
    postcondition_ordered n (i.Writes p xs) quiet = refl

    written_ordered : (n : ℕ) (x : Clause) → Quiet (pieces.clause c x) → IsTrue (every test (written a n x))
    written_ordered n (i.Holds p h x) quiet = refl
    written_ordered n (i.Writes p xs) quiet = listed_ordered (with_text texts.Writes c) (in_writes a) n xs quiet

    clauses_pass : {A : Type 0} (passes : A → Bool) (make : ℕ → Clause → List A) → ((n : ℕ) (x : Clause) → Quiet (pieces.clause c x) → IsTrue (every passes (make n x)))
        → (n : ℕ) (xs : List Clause) → Quiet (flat_map (pieces.clause c) xs) → IsTrue (every passes (each_clause make n xs))
    clauses_pass passes make h n [] quiet = refl
    clauses_pass passes make h n (x ∷ xs) quiet =
        let own = pieces.clause c x in
        let rest = flat_map (pieces.clause c) xs in
        every_append passes (make n x) (each_clause make (n + clause_formulas x) xs) (h n x (quiet_left own rest quiet)) (clauses_pass passes make h (n + clause_formulas x) xs (quiet_right own rest quiet))

  -- bodies

  abbrev good : Stmts → Bool
  good xs = row_ordered (numbered_row l s xs)

  abbrev fine : Stmt → Bool
  fine x = stmt_ordered (numbered_statement l s x)

  append_good : (xs ys : Stmts) → IsTrue (good xs) → IsTrue (good ys) → IsTrue (good (append xs ys))
  append_good NoStmt ys h j = j
  append_good (AStmt x xs) ys h j = and_both (fine x) (good (append xs ys)) (and_left (fine x) (good xs) h) (append_good xs ys (and_right (fine x) (good xs) h) j)

  defined_fine : (a : Around) (line : ℕ) (ty : Ty) (x : Id) (r : Rhs) → IsTrue (fine (defined a line ty x r))
  defined_fine a line ty x (e.Called y) = refl
  defined_fine a line ty x _ = refl

  assigned_fine : (a : Around) (line : ℕ) (x : Exp) (y : Effect) → IsTrue (fine (assigned_by a line x y))
  assigned_fine a line x (e.Set (e.Called y)) = refl
  assigned_fine a line x (e.Set _) = refl
  assigned_fine a line x _ = refl

  maybe_good : (a : Around) (x : Option Assignment) → IsTrue (good (maybe_assigned a x))
  maybe_good a None = refl
  maybe_good a (Some x) = alone (fine (assigned a (first_place x.left).line x)) (assigned_fine a (first_place x.left).line x.left x.effect)

  both_sides : (xs ys : Stmts) → IsTrue (good xs) → IsTrue (good ys) → IsTrue ((good xs && good ys) && true)
  both_sides xs ys h j = alone (good xs && good ys) (and_both (good xs) (good ys) h j)

  mutual
    ghost_good : (a : Around) (m : Counters) (x : GStm) → IsTrue (good (ghost_row a m x))
    ghost_good a m (g.Block p ss) = ghosts_good a m ss
    ghost_good a m (g.Declare p ty x None) = refl
    ghost_good a m (g.Declare p ty x (Some r)) = refl
    ghost_good a m (g.Assign p x q r) = refl
    ghost_good a m (g.Owns p x q y) = refl
    ghost_good a m (g.DestroyClaim p x xs) = refl
    ghost_good a m (g.Wrap p x) = refl
    ghost_good a m (g.Unwrap p x) = refl
    ghost_good a m (g.If p x u) = both_sides (ghost_row a m u) NoStmt (ghost_good a m u) refl
    ghost_good a m (g.IfElse p x u w) = both_sides (ghost_row a m u) (ghost_row a (plus m (in_ghost u)) w) (ghost_good a m u) (ghost_good a (plus m (in_ghost u)) w)

    ghosts_good : (a : Around) (m : Counters) (xs : GStms) → IsTrue (good (ghost_rows a m xs))
    ghosts_good a m g.Empty = refl
    ghosts_good a m (g.More u us) = append_good (ghost_row a m u) (ghost_rows (known_behind_ghost a u) (plus m (in_ghost u)) us) (ghost_good a m u) (ghosts_good (known_behind_ghost a u) (plus m (in_ghost u)) us)

  invariants_ordered : (a : Around) (c : Context) (m : ℕ) (is : List Inv) → Quiet (pieces.invariants texts.LoopInvariant c is) → IsTrue (every test (invariants a m is))
  invariants_ordered a c m [] quiet = refl
  invariants_ordered a c m (x ∷ xs) quiet =
      let own = expression (with_text texts.LoopInvariant c) x.property in
      let rest = pieces.invariants texts.LoopInvariant c xs in
      and_both (test (spec a m x.property)) (every test (invariants a (m + formulas x.property) xs)) (quiet_ordered a (with_text texts.LoopInvariant c) m x.property (quiet_left own rest quiet)) (invariants_ordered a c (m + formulas x.property) xs (quiet_right own rest quiet))

  loop_good : (a : Around) (c : Context) (m : ℕ) (is : List Inv) (body : Stmts) → Quiet (pieces.invariants texts.LoopInvariant c is) → IsTrue (good body) → IsTrue ((every (is_ordered false) (map (numbered l s) (invariants a m is)) && good body) && true)
  loop_good a c m is body quiet h =
      alone (every (is_ordered false) (map (numbered l s) (invariants a m is)) && good body) (and_both (every (is_ordered false) (map (numbered l s) (invariants a m is))) (good body)
      (every_map (is_ordered false) (numbered l s) (invariants a m is) (invariants_ordered a c m is quiet)) h)

  mutual
    stmt_good : (a : Around) (c : Context) (m : Counters) (x : Stm) → Quiet (pieces.in_statement c x) → IsTrue (good (row a m x))
    stmt_good a c m (st.Block p ss q) quiet = rows_good a c m ss quiet
    stmt_good a c m (st.Skip p) quiet = refl
    stmt_good a c m (st.Declare p ty x None) quiet = refl
    stmt_good a c m (st.Declare p ty x (Some r)) quiet = alone (fine (defined a p.line ty x r)) (defined_fine a p.line ty x r)
    stmt_good a c m (st.Assign p x) quiet = alone (fine (assigned a p.line x)) (assigned_fine a p.line x.left x.effect)
    stmt_good a c m (st.Call p x) quiet = refl
    stmt_good a c m (st.If p y u) quiet = both_sides (row a m u) NoStmt (stmt_good a c m u (quiet_rest (Statement c u) (pieces.in_statement c u) (quiet_right (expression c y) (Statement c u ∷ pieces.in_statement c u) quiet))) refl
    stmt_good a c m (st.IfElse p y u w) quiet =
        let first = Statement c u ∷ pieces.in_statement c u in
        let second = Statement c w ∷ pieces.in_statement c w in
        let inner = quiet_right (expression c y) (first ++ second) quiet in
        let v = plus m (in_statement u) in
        both_sides (row a m u) (row a v w) (stmt_good a c m u (quiet_rest (Statement c u) (pieces.in_statement c u) (quiet_left first second inner))) (stmt_good a c v w (quiet_rest (Statement c w) (pieces.in_statement c w) (quiet_right first second inner)))
    stmt_good a c m (st.While p y is u) quiet =
        let own = Statement c u ∷ pieces.in_statement c u in
        let said = pieces.invariants texts.LoopInvariant c is in
        let inner = quiet_right (expression c y) (said ++ own) quiet in
        let v = plus_formulas m (in_invariants is) in
        loop_good a c m.formulas is (row a v u) (quiet_left said own inner) (stmt_good a c v u (quiet_rest (Statement c u) (pieces.in_statement c u) (quiet_right said own inner)))
    stmt_good a c m (st.Do p is u q y) quiet =
        let own = Statement c u ∷ pieces.in_statement c u in
        let said = pieces.invariants texts.LoopInvariant c is in
        let v = plus_formulas m (in_invariants is) in
        loop_good a c m.formulas is (row a v u) (quiet_left said (own ++ expression c y) quiet) (stmt_good a c v u (quiet_rest (Statement c u) (pieces.in_statement c u) (quiet_left own (expression c y) (quiet_right said (own ++ expression c y) quiet))))
    stmt_good a c m (st.For p b y d is u) quiet =
        let own = Statement c u ∷ pieces.in_statement c u in
        let said = pieces.invariants texts.LoopInvariant c is in
        let before = if_some (assignment c) b in
        let each = if_some (assignment c) d in
        let inner = quiet_right each (said ++ own) (quiet_right (expression c y) (each ++ (said ++ own)) (quiet_right before (expression c y ++ (each ++ (said ++ own))) quiet)) in
        let v = plus_formulas m (in_invariants is) in
        let body = append (row a v u) (maybe_assigned a d) in
        let body_good = append_good (row a v u) (maybe_assigned a d) (stmt_good a c v u (quiet_rest (Statement c u) (pieces.in_statement c u) (quiet_right said own inner))) (maybe_good a d) in
        append_good (maybe_assigned a b) (one (t.While p.line (invariants a m.formulas is) (codes.code a y) body)) (maybe_good a b) (loop_good a c m.formulas is body (quiet_left said own inner) body_good)
    stmt_good a c m (st.Return p x) quiet = refl
    stmt_good a c m (st.Spawn p x) quiet = refl
    stmt_good a c m (st.Free p x) quiet = refl
    stmt_good a c m (st.Assert p x) quiet = alone (test (spec a m.formulas x)) (quiet_ordered a (with_text texts.Assert c) m.formulas x quiet)
    stmt_good a c m (st.Ghost p x) quiet = ghost_good a m x
    stmt_good a c m (st.Wrap p x) quiet = refl
    stmt_good a c m (st.Unwrap p x) quiet = refl
    stmt_good a c m (st.Unwrapping p x ss q) quiet = alone (good (rows a (plus_formulas m 1) ss)) (rows_good a (inside_unwrapping c) (plus_formulas m 1) ss (quiet_right (expression (ghost c) x) (pieces.in_statements (inside_unwrapping c) ss) quiet))
    stmt_good a c m (st.Atomic p xs ss q) quiet = refl

    rows_good : (a : Around) (c : Context) (m : Counters) (xs : Stms) → Quiet (pieces.in_statements c xs) → IsTrue (good (rows a m xs))
    rows_good a c m st.Empty quiet = refl
    rows_good a c m (st.More u us) quiet =
        let first = Statement c u ∷ pieces.in_statement c u in
        let rest = pieces.in_statements (following c u) us in
        append_good (row a m u) (rows (known_behind a u) (plus m (in_statement u)) us) (stmt_good a c m u (quiet_rest (Statement c u) (pieces.in_statement c u) (quiet_left first rest quiet))) (rows_good (known_behind a u) (following c u) (plus m (in_statement u)) us (quiet_right first rest quiet))

-- ---- the tables

module _ (items : List Item) (end : Span) (typed : IsWellTyped items end) where
  module _ (k : ℕ) (info : t.StructInfo) (at : slice_get (program items).structs k ≡ Some info) where
    struct_made : (u : StructTree) × (m : ℕ) × (Contains (structs items) u) × (numbered_struct (shapes items) (struct items m u) ≡ info)
    struct_made =
        let p = mapped (numbered_struct (shapes items)) (struct_table items (start items) items) k info at in
        let q = row_struct items (start items) items k p.0 p.1 in
        (q.1, q.0, contained (structs items) k q.1 q.2, ap (numbered_struct (shapes items)) q.3 ∙ p.2)

    invariants_of_struct : IsTrue (every (is_ordered false) info.invariants)
    invariants_of_struct =
        let z = struct_made in
        let a = around_struct items z.0 in
        subst (λ (y : t.StructInfo). IsTrue (every (is_ordered false) y.invariants)) z.3
        (every_map (is_ordered false) (numbered (shapes items) no_sorts) (struct items z.1 z.0).invariants
        (each_ordered (shapes items) no_sorts items z.0 (λ m x. spec a m x ∷ []) (λ m x quiet. alone _ (quiet_ordered (shapes items) no_sorts a (in_struct items z.0) m x quiet)) z.1 z.0.members (members_quiet items end typed z.0 z.2)))

    fixed_set_of_struct : IsTrue (every (is_ordered false) info.mine)
    fixed_set_of_struct =
        let z = struct_made in
        let a = around_struct items z.0 in
        let all = each_ordered (shapes items) no_sorts items z.0 (mine a) (λ m x quiet. mine_ordered (shapes items) no_sorts a m x (quiet_fit (in_struct items z.0) x quiet)) z.1 z.0.members (members_quiet items end typed z.0 z.2) in
        subst (λ (y : t.StructInfo). IsTrue (every (is_ordered false) y.mine)) z.3
        (every_map (is_ordered false) (numbered (shapes items) no_sorts) (struct items z.1 z.0).mine (by (each_invariant (mine a) z.1 (invariants_of z.0.members)) (not (has_dynamic_owns z.0) && not (has_volatile_owns z.0)) all))
      where
        by : (ws : List Spec) (b : Bool) → IsTrue (every (test (shapes items) no_sorts) ws) → IsTrue (every (test (shapes items) no_sorts) (if b then ws else []))
        by ws true h = h
        by ws false h = refl

  module _ (k : ℕ) (info : t.FunctionInfo) (of : FunctionOf items k info) where
    abbrev c : Context
    c = in_function items of.tree

    abbrev a : Around
    a = around_function items of.tree

    abbrev l : List Shape
    l = shapes items

    abbrev s : Sorts
    s = sorts_of (function items of.before of.tree)

    contract : Quiet (flat_map (pieces.clause c) of.tree.contract)
    contract = contract_quiet items end typed of.tree of.in_items

    preconditions_of : IsTrue (every (λ (d : t.Clause). is_ordered false d.spec) info.preconditions)
    preconditions_of =
        subst (λ (z : t.FunctionInfo). IsTrue (every (λ (d : t.Clause). is_ordered false d.spec) z.preconditions)) (sym of.is)
        (every_map (λ (d : t.Clause). is_ordered false d.spec) (numbered_clause l s) (each_clause (precondition a) of.before.formulas of.tree.contract) (clauses_pass l s c a (clause_test l s) (precondition a) (precondition_ordered l s c a) of.before.formulas of.tree.contract contract))

    postconditions_of : IsTrue (every (λ (d : t.Clause). is_ordered false d.spec) info.postconditions)
    postconditions_of =
        subst (λ (z : t.FunctionInfo). IsTrue (every (λ (d : t.Clause). is_ordered false d.spec) z.postconditions)) (sym of.is)
        (every_map (λ (d : t.Clause). is_ordered false d.spec) (numbered_clause l s) (each_clause (postcondition a) of.before.formulas of.tree.contract) (clauses_pass l s c a (clause_test l s) (postcondition a) (postcondition_ordered l s c a) of.before.formulas of.tree.contract contract))

    writes_of : IsTrue (every (is_ordered false) info.writes)
    writes_of =
        subst (λ (z : t.FunctionInfo). IsTrue (every (is_ordered false) z.writes)) (sym of.is)
        (every_map (is_ordered false) (numbered l s) (each_clause (written a) of.before.formulas of.tree.contract) (clauses_pass l s c a (test l s) (written a) (written_ordered l s c a) of.before.formulas of.tree.contract contract))

    body_of : IsTrue (row_ordered info.body)
    body_of = subst (λ (z : t.FunctionInfo). IsTrue (row_ordered z.body)) (sym of.is) (rows_good l s a c (plus_formulas of.before (contract_formulas of.tree.contract)) of.tree.body.all (body_quiet items end typed of.tree of.in_items))

pub in_order : (items : List Item) (end : Span) → IsWellTyped items end → InOrder (program items)
in_order items end typed = record {
  invariants = invariants_of_struct items end typed;
  fixed_sets = fixed_set_of_struct items end typed;
  preconditions = λ k f at. preconditions_of items end typed k f (functions_law items end typed k f at);
  postconditions = λ k f at. postconditions_of items end typed k f (functions_law items end typed k f at);
  writes = λ k f at. writes_of items end typed k f (functions_law items end typed k f at);
  bodies = λ k f at. body_of items end typed k f (functions_law items end typed k f at);
}
