-- Statements one after the other, each of which knows what those before it declare: what a loop over them has added, and what is left.
use Rattle.std.proofs.Common.{◌≡◌, ℕ, ◌+◌, ◌-◌, ◌<◌, ◌≤◌, refl, sym, ◌∙◌, ap, append-nil, append_assoc, List, [], ◌∷◌, ◌++◌, map, drop, get_or, length, arith}
use Rattle.std.specs.Prelude.{flat_map}
use Rattle.c_syntax.specs.declared.ghosts.GhostStmt.{GhostStmt}
use Rattle.c_syntax.specs.declared.statements.Stmt.{Stmt}
use Rattle.c_syntax.specs.Ghosts as g
use Rattle.c_syntax.specs.Ghosts.{GStm}
use Rattle.c_syntax.specs.Grammar.{ghosts_of, stms_of}
use Rattle.c_syntax.specs.Statements as st
use Rattle.c_syntax.specs.Statements.{Inv, Stm}
use Rattle.c_syntax.specs.Views.{stm, ghost}
use Rattle.typing_spec.specs.Contexts.{Variable}
use Rattle.typing_spec.specs.Pieces as pieces
use Rattle.typing_expressions.proofs.Rows.{drop_at}
use Rattle.typed_program.specs.Numbers.{Around}
use Rattle.typed_program.specs.Sites.{Occurrence, says, invariants_say, ghost_occurrences, ghosts_occurrences, occurrences, all_occurrences}
use Rattle.typed_program.specs.Statements.{known_behind, known_behind_ghost}
use Rattle.typed_program.specs.Variables.{ghost_declared, declared}
use Rattle.typing_statements.proofs.Sequences.{Grows, kept, longer, grows_all, grows_ghosts}
use Rattle.typing_statements.specs.Views.{Fixed, within, following, behind_ghost}
use Rattle.elab_sites.proofs.Added.{dropped}
use Rattle.elab_sites.proofs.ByBodies.{told, ghost_told, declared_is, ghost_declared_is}
use Rattle.elab_sites.specs.Bodies.{body, else_body, ghost_body, ghost_else_body, tells, ghost_tells, declares, ghost_declares}
use Rattle.elab_sites.specs.Views.{at}

-- what an invariant says
abbrev pub says_one : Around → Inv → List Occurrence
says_one a x = says a x.property

pub says_each : (a : Around) (xs : List Inv) → invariants_say a xs ≡ flat_map (says_one a) xs
says_each a [] = refl
says_each a (x ∷ xs) = ap (λ (ts : List Occurrence). says a x.property ++ ts) (says_each a xs)

-- ---- the variables that are known

-- at least as many are known behind statements as before them
pub room : (vs ws : List Variable) (count : ℕ) → Grows vs ws → count ≡ length vs → count ≤ length ws
room vs ws count grown counted = omega (arith, longer vs ws grown, counted)

-- and those are known again when the others are forgotten
pub back : (vs ws after : List Variable) (count : ℕ) → Grows vs ws → count ≡ length vs → after ≡ drop (length ws - count) ws → after ≡ vs
back vs ws after count grown counted forgotten = forgotten ∙ (ap (λ (n : ℕ). drop (length ws - n) ws) counted ∙ kept vs ws grown)

grows_on : (start vs ws after : List Variable) → Grows start vs → Grows vs ws → after ≡ ws → Grows start after
grows_on start vs ws after h k e = (k.0 ++ h.0, e ∙ (k.1 ∙ (ap (λ (xs : List Variable). k.0 ++ xs) h.1 ∙ sym (append_assoc k.0 h.0 start))))

pub ghost_grows : (s : GStm) (start vs us after : List Variable) → Grows start vs → us ≡ vs → after ≡ behind_ghost s us → Grows start after
ghost_grows s start vs us after h e k = grows_on start vs (behind_ghost s vs) after h (grows_ghosts (s ∷ []) vs) (k ∙ ap (behind_ghost s) e)

pub grows : (s : Stm) (start vs us after : List Variable) → Grows start vs → us ≡ vs → after ≡ following s us → Grows start after
grows s start vs us after h e k = grows_on start vs (following s vs) after h (grows_all (s ∷ []) vs) (k ∙ ap (following s) e)

-- ---- lists that grow by what each of several adds

-- what one adds by itself, by its body and by what stands behind its `else` is put behind what there was
put : {Z : Type 0} (old one two three a b c r s whole total : List Z) → one ≡ old ++ a → two ≡ one ++ b → three ≡ two ++ c → a ++ (b ++ c) ≡ whole → r ≡ s → old ++ (whole ++ s) ≡ total → three ++ r ≡ total
put old one two three a b c r s whole total h k l w e t =
    let front : three ≡ old ++ whole = l ∙ (ap (λ zs. zs ++ c) (k ∙ ap (λ zs. zs ++ b) h) ∙ (append_assoc (old ++ a) b c ∙ (append_assoc old a (b ++ c) ∙ ap (λ zs. old ++ zs) w))) in
    ap (λ zs. zs ++ r) front ∙ (ap (λ zs. (old ++ whole) ++ zs) e ∙ (append_assoc old whole s ∙ t))

pub all_put : {X Z : Type 0} (f : List X → List Z) (all : List X) (i : ℕ) → length all ≤ i → f [] ≡ [] → (now total : List Z) → now ++ f (drop i all) ≡ total → now ≡ total
all_put f all i le none now total t = sym (append-nil now) ∙ (ap (λ zs. now ++ zs) (sym none) ∙ (ap (λ zs. now ++ f zs) (sym (dropped all i le)) ∙ t))

-- ---- what statements tell

step_ghost : (x : Fixed) (s : GStm) (vs : List Variable) → pieces.behind_ghost (within x vs) s ≡ within x (behind_ghost s vs)
step_ghost x (g.Declare p ty n r) vs = refl
step_ghost x _ vs = refl

at_ghost : (x : Fixed) (s : GStm) (vs : List Variable) (ns : List (List ℕ)) → known_behind_ghost (at x vs ns) s ≡ at x (behind_ghost s vs) ns
at_ghost x s vs ns = λ i. record { context = step_ghost x s vs i; names = ns; bound = 0 }

pub ghosts_told : (x : Fixed) (ns : List (List ℕ)) (f : ℕ) (all : List GhostStmt) (i : ℕ) (y : GhostStmt) → i < length all → y ≡ get_or all i y → (inner other : List GStm) → inner ≡ ghost_body (ghost y) → other ≡ ghost_else_body (ghost y)
    → (vs us ws after : List Variable) → us ≡ vs → ws ≡ us → after ≡ behind_ghost (ghost y) ws → (old one two three total : List Occurrence)
    → one ≡ old ++ ghost_tells (at x vs ns) f (ghost y) → two ≡ one ++ ghosts_occurrences (at x vs ns) f (ghosts_of inner) → three ≡ two ++ ghosts_occurrences (at x us ns) f (ghosts_of other)
    → old ++ ghosts_occurrences (at x vs ns) f (ghosts_of (map ghost (drop i all))) ≡ total → three ++ ghosts_occurrences (at x after ns) f (ghosts_of (map ghost (drop (i + 1) all))) ≡ total
ghosts_told x ns f all i y lt is inner other e k vs us ws after p q m old one two three total a b c t =
    let here = at x vs ns in
    let s = ghost y in
    let rest = ghosts_of (map ghost (drop (i + 1) all)) in
    put old one two three (ghost_tells here f s) (ghosts_occurrences here f (ghosts_of (ghost_body s))) (ghosts_occurrences here f (ghosts_of (ghost_else_body s))) (ghosts_occurrences (at x after ns) f rest) (ghosts_occurrences (known_behind_ghost here s) f rest) (ghost_occurrences here f s) total
    a (b ∙ (λ j. one ++ ghosts_occurrences here f (ghosts_of (e j)))) (c ∙ (λ j. two ++ ghosts_occurrences (at x (p j) ns) f (ghosts_of (k j)))) (ghost_told here f s)
    (ap (λ (zs : List Variable). ghosts_occurrences (at x zs ns) f rest) (m ∙ ap (behind_ghost s) (q ∙ p)) ∙ ap (λ (z : Around). ghosts_occurrences z f rest) (sym (at_ghost x s vs ns)))
    (ap (λ (zs : List GhostStmt). old ++ ghosts_occurrences here f (ghosts_of (map ghost zs))) (sym (drop_at all i y lt is)) ∙ t)

step : (x : Fixed) (s : Stm) (vs : List Variable) → pieces.following (within x vs) s ≡ within x (following s vs)
step x (st.Declare p ty n r) vs = refl
step x (st.Ghost p s) vs = step_ghost x s vs
step x _ vs = refl

at_statement : (x : Fixed) (s : Stm) (vs : List Variable) (ns : List (List ℕ)) → known_behind (at x vs ns) s ≡ at x (following s vs) ns
at_statement x s vs ns = λ i. record { context = step x s vs i; names = ns; bound = 0 }

pub statements_told : (x : Fixed) (ns : List (List ℕ)) (f : ℕ) (all : List Stmt) (i : ℕ) (y : Stmt) → i < length all → y ≡ get_or all i y → (inner other : List Stm) → inner ≡ body (stm y) → other ≡ else_body (stm y)
    → (vs us ws ts after : List Variable) → us ≡ vs → ws ≡ us → ts ≡ ws → after ≡ following (stm y) ts → (old one two three total : List Occurrence)
    → one ≡ old ++ tells (at x vs ns) f (stm y) → two ≡ one ++ all_occurrences (at x us ns) f (stms_of inner) → three ≡ two ++ all_occurrences (at x ws ns) f (stms_of other)
    → old ++ all_occurrences (at x vs ns) f (stms_of (map stm (drop i all))) ≡ total → three ++ all_occurrences (at x after ns) f (stms_of (map stm (drop (i + 1) all))) ≡ total
statements_told x ns f all i y lt is inner other e k vs us ws ts after p q r m old one two three total a b c t =
    let here = at x vs ns in
    let s = stm y in
    let rest = stms_of (map stm (drop (i + 1) all)) in
    let to = q ∙ p in
    put old one two three (tells here f s) (all_occurrences here f (stms_of (body s))) (all_occurrences here f (stms_of (else_body s))) (all_occurrences (at x after ns) f rest) (all_occurrences (known_behind here s) f rest) (occurrences here f s) total
    a (b ∙ (λ j. one ++ all_occurrences (at x (p j) ns) f (stms_of (e j)))) (c ∙ (λ j. two ++ all_occurrences (at x (to j) ns) f (stms_of (k j)))) (told here f s)
    (ap (λ (zs : List Variable). all_occurrences (at x zs ns) f rest) (m ∙ ap (following s) (r ∙ to)) ∙ ap (λ (z : Around). all_occurrences z f rest) (sym (at_statement x s vs ns)))
    (ap (λ (zs : List Stmt). old ++ all_occurrences here f (stms_of (map stm zs))) (sym (drop_at all i y lt is)) ∙ t)

-- ---- what statements declare

pub ghosts_declare : (all : List GhostStmt) (i : ℕ) (y : GhostStmt) → i < length all → y ≡ get_or all i y → (inner other : List GStm) → inner ≡ ghost_body (ghost y) → other ≡ ghost_else_body (ghost y)
    → (old one two three total : List Variable) → one ≡ old ++ ghost_declares (ghost y) → two ≡ one ++ flat_map ghost_declared inner → three ≡ two ++ flat_map ghost_declared other
    → old ++ flat_map ghost_declared (map ghost (drop i all)) ≡ total → three ++ flat_map ghost_declared (map ghost (drop (i + 1) all)) ≡ total
ghosts_declare all i y lt is inner other e k old one two three total a b c t =
    let s = ghost y in
    let rest = flat_map ghost_declared (map ghost (drop (i + 1) all)) in
    put old one two three (ghost_declares s) (flat_map ghost_declared (ghost_body s)) (flat_map ghost_declared (ghost_else_body s)) rest rest (ghost_declared s) total
    a (b ∙ ap (λ (zs : List GStm). one ++ flat_map ghost_declared zs) e) (c ∙ ap (λ (zs : List GStm). two ++ flat_map ghost_declared zs) k) (ghost_declared_is s) refl
    (ap (λ (zs : List GhostStmt). old ++ flat_map ghost_declared (map ghost zs)) (sym (drop_at all i y lt is)) ∙ t)

pub statements_declare : (all : List Stmt) (i : ℕ) (y : Stmt) → i < length all → y ≡ get_or all i y → (inner other : List Stm) → inner ≡ body (stm y) → other ≡ else_body (stm y)
    → (old one two three total : List Variable) → one ≡ old ++ declares (stm y) → two ≡ one ++ flat_map declared inner → three ≡ two ++ flat_map declared other
    → old ++ flat_map declared (map stm (drop i all)) ≡ total → three ++ flat_map declared (map stm (drop (i + 1) all)) ≡ total
statements_declare all i y lt is inner other e k old one two three total a b c t =
    let s = stm y in
    let rest = flat_map declared (map stm (drop (i + 1) all)) in
    put old one two three (declares s) (flat_map declared (body s)) (flat_map declared (else_body s)) rest rest (declared s) total
    a (b ∙ ap (λ (zs : List Stm). one ++ flat_map declared zs) e) (c ∙ ap (λ (zs : List Stm). two ++ flat_map declared zs) k) (declared_is s) refl
    (ap (λ (zs : List Stmt). old ++ flat_map declared (map stm zs)) (sym (drop_at all i y lt is)) ∙ t)
