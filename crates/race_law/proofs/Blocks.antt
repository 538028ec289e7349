-- What an atomic block accesses, its thread may access on the heap at the block's beginning.
use Rattle.std.proofs.Common.{◌≡◌, ℕ, ◌+◌, true, cond, ◌&&◌, List, [], ◌∷◌, ◌++◌, map, length, Some, slice_get}
use Rattle.std.specs.List.{All}
use Rattle.std.proofs.lemmas.List.Elements.{All-nil}
use Rattle.object_types.specs.declared.references.Ref.{Ref}
use Rattle.object_types.specs.References.{is_thread}
use Rattle.object_types.specs.Values.{referent, truth}
use Rattle.object_types.specs.Sets.{every, is_in}
use Rattle.object_types.specs.Heap.{closed_in}
use Rattle.method.specs.declared.program.CheckKind.TheVariants.{AtomicClosed}
use Rattle.method.specs.declared.program.Inner.{Inner, Row_of-Inner, end_of-Inner, more_of-Inner}
use Rattle.method.specs.declared.program.Inner.TheVariants.{Inside, InsideIf'}
use Rattle.method.specs.declared.program.Listed.{Listed}
use Rattle.method.specs.declared.program.FunctionInfo.{FunctionInfo}
use Rattle.method.specs.declared.program.Program.{Program}
use Rattle.method.specs.WellFormed.{WellFormed}
use Rattle.method.specs.Typing.{is_test, inner_ok, inner_row_ok, WellTyped}
use Rattle.method.specs.Expressions.{Outcome, Context, Spot, after, check_each, is_listed, readable, eval, eval_all, checks, all_checks}
use Rattle.method.specs.Actions.{Progress, Tally, no_tally, listed_exprs, list_checks, block_end, atomic, inner_spot, run_inner, run_row, run_list, inner_checks, row_checks, tally_plus, inner_tally, row_tally}
use Rattle.method.proofs.Global.{and_both}
use Rattle.machine_laws.proofs.Outcomes.{OnGave, after_gave, check_each_gave, end_map}
use Rattle.machine_laws.proofs.Steps.{Fine, fine_same, fine_trans, still_listed}
use Rattle.machine_laws.proofs.Typed.{Env}
use Rattle.machine_laws.proofs.Blocks.{inner_gave, all_closed}
use Rattle.race_law.specs.Accesses.{Access, with_value, reading, writing, expr_reads, exprs_read, inner_accesses, row_accesses, list_accesses}
use Rattle.race_law.proofs.Allowed.{Allowed}
use Rattle.race_law.proofs.Exprs.{any_gave, followed, behind, either_all, eval_all_reads}
use Rattle.race_law.proofs.Simple.{expr_here, simple_here}
use Rattle.race_law.proofs.Between.{storable, reads_allowed, stores_allowed}

module _ (p : Program) (typed : WellTyped p) (f : FunctionInfo) (k : ℕ) (fis : slice_get p.functions.items k ≡ Some f) (x : Context) (thread : is_thread x.me ≡ true) (os : List Ref)
    (start : Progress) (wf : WellFormed p start.heap) (closed : (o : Ref) → is_in o os ≡ true → closed_in start.heap o ≡ true) where
  abbrev SoFar : Progress → Type 0
  SoFar g = Fine p f x (λ o. is_in o os) start g

  abbrev Allows : Access → Type 0
  Allows a = Allowed p x.me start.heap a

  -- of what the statements of a line may read and store
  line_reads : (line : ℕ) (g : Progress) → SoFar g → (o : Ref) (y : ℕ) → readable p (inner_spot p x os line) g.heap o y ≡ true → Allows (reading p (inner_spot p x os line) o y)
  line_reads line g so = reads_allowed p f (inner_spot p x os line) start g wf so closed

  line_writes : (line : ℕ) (g : Progress) → SoFar g → (o : Ref) (y : ℕ) → storable p (inner_spot p x os line) g.heap o y ≡ true → Allows (writing p (inner_spot p x os line) o y)
  line_writes line g so = stores_allowed p f (inner_spot p x os line) start g wf so closed

  inner_on : (i : Inner) (n : ℕ) (tally : Tally) (g : Progress) → SoFar g → inner_ok p f k i ≡ true → OnGave (run_inner p x os i n tally g) SoFar
  inner_on i n tally g so e =
      end_map (run_inner p x os i n tally g).end (Fine p f x (λ o. is_in o os) g) SoFar (λ g' y. fine_trans p f x (λ o. is_in o os) start g g' so y)
      (inner_gave p typed f k fis x thread os i n tally g so.ready (still_listed p f x (λ o. is_in o os) start g so (λ o j n. closed o j)) e)

  mutual
    inner_all : (i : Inner) (n : ℕ) (tally : Tally) (g : Progress) → SoFar g → inner_ok p f k i ≡ true → OnGave (run_inner p x os i n tally g) (λ g'. All Allows (inner_accesses p x os i n tally g))
    inner_all (Inside line s) n tally g so e = simple_here p typed f (inner_spot p x os line) thread k fis start (λ o l c. closed o l) Allows (line_reads line) (line_writes line) g so s n tally (λ out. absurd (cc)) e
    inner_all (InsideIf' line t m a q b) n tally g so e =
        let c = and_both (is_test p f t) (inner_row_ok p f k a && inner_row_ok p f k b) e in
        let d = and_both (inner_row_ok p f k a) (inner_row_ok p f k b) c.1 in
        let o = eval p (inner_spot p x os line) g.heap g.locals t n in
        let reads = expr_reads p (inner_spot p x os line) g.heap g.locals t n in
        let left = run_row p x os a (n + checks t) tally g in
        let right = run_row p x os b (n + checks t + row_checks p a) (tally_plus tally (row_tally p a)) g in
        let lefts = row_accesses p x os a (n + checks t) tally g in
        let rights = row_accesses p x os b (n + checks t + row_checks p a) (tally_plus tally (row_tally p a)) g in
        behind Allows o (λ v. cond (truth v) left right) reads (λ v. cond (truth v) lefts rights) (expr_here p typed f (inner_spot p x os line) thread k fis start (λ o l c. closed o l) Allows (line_reads line) (line_writes line) g so t n) (λ v.
        either_all Allows (truth v) left right lefts rights (row_all a (n + checks t) tally g so d.0)
        (row_all b (n + checks t + row_checks p a) (tally_plus tally (row_tally p a)) g so d.1))

    row_all :
        {m : _} (row : Row_of-Inner m) (n : ℕ) (tally : Tally) (g : Progress) → SoFar g → inner_row_ok p f k row ≡ true →
        OnGave (run_row p x os row n tally g) (λ g'. All Allows (row_accesses p x os row n tally g))
    row_all end_of-Inner n tally g so e = All-nil Allows
    row_all (more_of-Inner i row) n tally g so e =
        let b = and_both (inner_ok p f k i) (inner_row_ok p f k row) e in
        let o = run_inner p x os i n tally g in
        let m = n + inner_checks p i in
        let more = tally_plus tally (inner_tally p i) in
        followed Allows o (λ g'. run_row p x os row m more g') (inner_accesses p x os i n tally g) (λ e. with_value e (λ g'. row_accesses p x os row m more g')) SoFar
        (inner_all i n tally g so b.0) (inner_on i n tally g so b.0)
        (λ g' y. row_all row m more g' y b.1)

  pub list_all :
      (is : List Inner) (n : ℕ) (tally : Tally) (g : Progress) → SoFar g → every (inner_ok p f k) is ≡ true →
      OnGave (run_list p x os is n tally g) (λ g'. All Allows (list_accesses p x os is n tally g))
  list_all [] n tally g so e = All-nil Allows
  list_all (i ∷ is) n tally g so e =
      let b = and_both (inner_ok p f k i) (every (inner_ok p f k) is) e in
      let o = run_inner p x os i n tally g in
      let m = n + inner_checks p i in
      let more = tally_plus tally (inner_tally p i) in
      followed Allows o (λ g'. run_list p x os is m more g') (inner_accesses p x os i n tally g) (λ e. with_value e (λ g'. list_accesses p x os is m more g')) SoFar
      (inner_all i n tally g so b.0) (inner_on i n tally g so b.0)
      (λ g' y. list_all is m more g' y b.1)

-- a whole block, which stands where nothing is listed, or closed
module _ (p : Program) (typed : WellTyped p) (f : FunctionInfo) (k : ℕ) (fis : slice_get p.functions.items k ≡ Some f) (at_ : Spot) (thread : is_thread at_.context.me ≡ true)
    (g : Progress) (env : Env p f g.heap g.locals) (closed : (o : Ref) → is_listed at_ o ≡ true → closed_in g.heap o ≡ true) where
  pub atomic_all :
      (ls : List Listed) (body : List Inner) (n : ℕ) → every (inner_ok p f k) body ≡ true →
      OnGave (atomic p at_ ls body n g) (λ g'. All (Allowed p at_.context.me g.heap) (exprs_read p at_ g.heap g.locals (listed_exprs ls) n ++ with_value (eval_all p at_ g.heap g.locals (listed_exprs ls) n).end
      (λ vs. list_accesses p at_.context (map referent vs) body (n + all_checks (listed_exprs ls) + length ls) no_tally g)))
  atomic_all ls body n ok =
      let Q : Access → Type 0 = λ a. Allowed p at_.context.me g.heap a in
      let m = n + all_checks (listed_exprs ls) in
      let o = eval_all p at_ g.heap g.locals (listed_exprs ls) n in
      let reads = exprs_read p at_ g.heap g.locals (listed_exprs ls) n in
      let run : List Ref → Outcome Progress = λ os. run_list p at_.context os body (m + length ls) no_tally g in
      let end : List Ref → Progress → Outcome Progress = λ os g'. block_end p at_ body ls os g.heap (m + length ls + list_checks p body) g' in
      behind Q o (λ vs. check_each at_ (map (closed_in g.heap) (map referent vs)) m AtomicClosed (after (run (map referent vs)) (end (map referent vs)))) reads
      (λ vs. list_accesses p at_.context (map referent vs) body (m + length ls) no_tally g)
      (eval_all_reads p at_ g.heap g.locals Q (reads_allowed p f at_ g g env.heap (fine_same p f at_.context (is_listed at_) g env) closed) (listed_exprs ls) n) (λ vs.
      let os = map referent vs in
      let T = All Q (list_accesses p at_.context os body (m + length ls) no_tally g) in
      check_each_gave at_ (map (closed_in g.heap) os) m AtomicClosed (after (run os) (end os)) (λ g'. T) (λ c.
      after_gave (run os) (end os) (λ g'. T) (λ g'. T)
      (list_all p typed f k fis at_.context thread os g env.heap (λ q i. all_closed g.heap os q c i) body (m + length ls) no_tally g (fine_same p f at_.context (λ q. is_in q os) g env) ok)
      (λ g' y. any_gave (end os g') T y)))
