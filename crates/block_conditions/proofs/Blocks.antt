-- Atomic blocks of a function, as the induction on runs asks for them.
use Rattle.std.proofs.Common.{◌≡◌, ℕ, Bool, true, not, ◌&&◌, ◌||◌, List, Some, slice_get, refl}
use Rattle.object_types.specs.declared.references.Ref.{Ref}
use Rattle.object_types.specs.declared.values.Value.{Value}
use Rattle.object_types.specs.declared.values.Value.TheVariants.{Ref as Refers}
use Rattle.object_types.specs.declared.shapes.Entry.{Entry as HeapEntry}
use Rattle.object_types.specs.References.{is_thread}
use Rattle.object_types.specs.Sets.{every, is_in}
use Rattle.object_types.specs.Heap.{Heap}
use Rattle.method.specs.declared.program.Action.TheVariants.{Atomic}
use Rattle.method.specs.declared.program.Listed.{Listed}
use Rattle.method.specs.declared.program.Simple.{Simple}
use Rattle.method.specs.declared.program.FunctionInfo.{FunctionInfo}
use Rattle.method.specs.declared.program.Program.{Program}
use Rattle.method.specs.SpecValue.{entry_holds}
use Rattle.method.specs.Invariants.{inv_holds}
use Rattle.method.specs.Tables.{local}
use Rattle.method.specs.Typing.{WellTyped, is_ref, is_claim_expr, simple_ok, inner_ok, action_ok}
use Rattle.method.specs.Expressions.{Context}
use Rattle.method.specs.LocalRuns.{FailsAt, ActsTo}
use Rattle.method.specs.Actions as M
use Rattle.method.specs.Actions.{Progress, Tally, Chosen, spot, inner_spot, starting, act, simple_tally, listed_exprs}
use Rattle.method.proofs.Global.{and_both}
use Rattle.machine_laws.proofs.Typed.{Env}
use Rattle.machine_laws.proofs.Steps.{ListedClosed}
use Rattle.terms.specs.Formula.{Formula}
use Rattle.conditions.specs.Annotations.{Entry, entry_formula}
use Rattle.conditions.specs.Code.{Spot, State, inv}
use Rattle.conditions.specs.Actions as walk
use Rattle.conditions.specs.Actions.{inside_block}
use Rattle.conditions.proofs.FromRuns.{count_of}
use Rattle.condition_meaning.specs.Languages.{language_of}
use Rattle.condition_meaning.proofs.Near.{Near, near_of}
use Rattle.condition_meaning.proofs.Environments.{Environment, Is, Has, HeapIs}
use Rattle.condition_meaning.proofs.Walks.{Follows, Breaks}
use Rattle.condition_walks.proofs.TermSorts.{AllSorted}
use Rattle.block_conditions.proofs.Beside.{Beside, beside_less}
use Rattle.block_conditions.proofs.Operands.{At}
use Rattle.block_conditions.proofs.Interlocked.{AllSee}
use Rattle.block_conditions.proofs.Noting.{EntryIs}
use Rattle.block_conditions.proofs.Seeing.{SeesSimple, SeesList}
use Rattle.block_conditions.proofs.Inner as inner
use Rattle.block_conditions.proofs.Statements as statements
use Rattle.block_conditions.proofs.ClaimsInside as claims
use Rattle.block_conditions.proofs.EndClaims.{ExactlyIs}
use Rattle.block_conditions.proofs.EndsInside as ends
use Rattle.block_conditions.proofs.AtomicBlocks as blocks
use Rattle.block_conditions.proofs.Acted.{Spotted, size, acted_follows, acted_breaks, at_less, still_hid}
use Rattle.method.specs.declared.program.Stmt.TheVariants.{Do}
use Rattle.conditions.proofs.Hiding.{after_stmt}

-- Of an object's invariant and of a conjunct, what their terms stand for.
abbrev pub InvIs : Program → Ref → Type 0
InvIs p t = (e : Environment (language_of p) t) (o y z : Formula) (r : Ref) (h j : Heap) → Has (language_of p) t e o (Refers r) → HeapIs (language_of p) t e y h → HeapIs (language_of p) t e z j → Near p h → Near p j → Is (language_of p) t e (inv o y z) (inv_holds p r h j)

-- a conjunct's term has the truth value of the conjunct
abbrev pub EntryTrueIs : Program → Ref → Type 0
EntryTrueIs p t = (e : Environment (language_of p) t) (y : Formula) (h : Heap) (d : Entry) (z : HeapEntry) → HeapIs (language_of p) t e y h → Near p h → EntryIs (language_of p) t e d z → Is (language_of p) t e (entry_formula p y d) (entry_holds p h z)

module _ (p : Program) (typed : WellTyped p) (f : FunctionInfo) (x : Context) (fis : slice_get p.functions.items x.function ≡ Some f) (thread : is_thread x.me ≡ true) (a : Spot) (hid : ℕ → Bool)
    (is_exactly : ExactlyIs p x.me) (is_inv : InvIs p x.me) (is_entry_true : EntryTrueIs p x.me)
  where
    abbrev k : ℕ
    k = x.function

    abbrev E : Type 0
    E = Environment (language_of p) x.me

    abbrev block : List Formula → Spot
    block osf = record a { listed = osf }

    -- each simple statement of a block
    pub beside_simple : (os : List Ref) (osf : List Formula) (line n : ℕ) (place : Tally) (s : Simple) (st : State) (g : Progress) → Env p f g.heap g.locals → ListedClosed (λ o. is_in o os) g.heap → simple_ok p f k true s ≡ true → SeesSimple p hid s → (Before : E → Type 0) → ((e : E) → Before e → inner.Here p typed f k fis x thread os (block osf) hid 0 st g e)
        → inner.Goal p typed f k fis x thread os (block osf) hid n place (simple_tally p s) st g (walk.run_simple p (inside_block a osf) s st) (M.run_simple p (inner_spot p x os line) s n place g) Before
    beside_simple os osf =
        statements.beside_simple p typed f k fis x thread os (block osf) hid
        (λ line n place number pl mpl st g env lists vs is sees Before here. claims.beside_new_claim p typed f k fis x thread os (block osf) hid line n place number pl mpl st g env lists Before here vs is sees)
        (ends.beside_end_claim p typed f k fis x thread os (block osf) hid is_exactly)

    module _ (line : ℕ) (choices : List Value) (news : List Ref) (ls : _) (body : _) (n : ℕ) (st : State) (h : Heap) (l : List Value) (env : Env p f h l) (ok : action_ok p f k (Atomic ls body) ≡ true)
        (sorted : AllSorted f.variables.items st.locals) (sees_listed : AllSee hid (listed_exprs ls.items)) (sees_body : SeesList p hid body.items)
      where
        abbrev g : Progress
        g = starting h l (Chosen news)

        pub beside_block : Beside (language_of p) x.me n (count_of st) (count_of (walk.atomic p a ls.items body.items st).gives) (walk.atomic p a ls.items body.items st) (M.atomic p (spot x choices line) ls.items body.items n g) (λ e. At p f (spot x choices line) a hid st g e) (λ g' e. At p f (spot x choices line) a hid (walk.atomic p a ls.items body.items st).gives g' e)
        beside_block =
            let b = and_both (every (λ (i : Listed). is_ref p f i.object && (not i.is_claim || is_claim_expr p f i.object)) ls.items) (every (inner_ok p f k) body.items) ok in
            blocks.beside_atomic p typed f k fis x thread a hid (λ e o y z r h j ho hy hz ph pj. is_inv e o y z r h j ho hy hz (near_of ph) (near_of pj)) (λ e y h d z hy ph k. is_entry_true e y h d z hy (near_of ph) k) beside_simple line choices ls.items body.items n st g env refl refl b.0 b.1 sorted sees_listed sees_body (λ e. At p f (spot x choices line) a hid st g e) (λ e b. b)

        beside_behind : Beside (language_of p) x.me n (count_of st) (count_of (walk.atomic p a ls.items body.items st).gives) (walk.atomic p a ls.items body.items st) (M.atomic p (spot x choices line) ls.items body.items n g) (λ e. At p f (spot x choices line) a hid st g e) (λ g' e. At p f (spot x choices line) a (after_stmt (Do line (Atomic ls body)) hid) (walk.atomic p a ls.items body.items st).gives g' e)
        beside_behind =
            let u = walk.atomic p a ls.items body.items st in
            beside_less (language_of p) x.me n (count_of st) (count_of u.gives) u (M.atomic p (spot x choices line) ls.items body.items n g) (λ e. At p f (spot x choices line) a hid st g e) (λ e. At p f (spot x choices line) a hid st g e) (λ g' e. At p f (spot x choices line) a hid u.gives g' e) (λ g' e. At p f (spot x choices line) a (after_stmt (Do line (Atomic ls body)) hid) u.gives g' e) (λ e b. b)
            (λ g' came e b z. at_less p f (spot x choices line) a hid (after_stmt (Do line (Atomic ls body)) hid) (still_hid hid line (Atomic ls body) refl) u.gives g' e z) beside_block

        -- `act_follows` of a block, and `act_breaks`
        pub block_follows : (h' : Heap) (l' : List Value) → ActsTo p x f (act p x choices (Chosen news) line (Atomic ls body) n h l) h' l' → Follows (language_of p) x.me (size p typed f x fis thread a) (Spotted p typed f x fis thread a) hid (after_stmt (Do line (Atomic ls body)) hid) st (walk.run_action p a f (Atomic ls body) st) h (local l) h' (local l')
        block_follows = acted_follows p typed f x fis thread a line n (Atomic ls body) choices news st h l env ok hid (after_stmt (Do line (Atomic ls body)) hid) (walk.run_action p a f (Atomic ls body) st) (λ fit. beside_behind)

        pub block_breaks : (label : ℕ) → FailsAt label (act p x choices (Chosen news) line (Atomic ls body) n h l) → Breaks (language_of p) x.me (size p typed f x fis thread a) (Spotted p typed f x fis thread a) label n hid st (walk.run_action p a f (Atomic ls body) st) h (local l)
        block_breaks = acted_breaks p typed f x fis thread a line n (Atomic ls body) choices news st h l env ok hid (after_stmt (Do line (Atomic ls body)) hid) (walk.run_action p a f (Atomic ls body) st) (λ fit. beside_behind)
