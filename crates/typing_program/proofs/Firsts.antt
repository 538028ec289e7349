-- What programs, structs and functions break first is what their pieces say.
use Rattle.std.proofs.Common.{◌≡◌, ℕ, ◌+◌, ◌<◌, refl, sym, ◌∙◌, ap, append-nil, Bool, not, ◌&&◌, ◌||◌, ◌==◌, List, [], ◌∷◌, ◌++◌, Option, Some, None, length, map, take, get_or}
use Rattle.std.specs.Prelude.{flat_map, is_some}
use Rattle.std.specs.List.{list_any}
use Rattle.std.specs.Option.{option_map}
use Rattle.std.proofs.lemmas.Grind.{flat_map-append}
use Rattle.std.proofs.lemmas.List.{map-append, length-map}
use Rattle.c_syntax.specs.declared.token.Span.{Span}
use Rattle.c_syntax.specs.Expressions.{Id}
use Rattle.c_syntax.specs.Items as i
use Rattle.c_syntax.specs.Items.{FunctionTree, FieldTree, Member, StructTree, Item}
use Rattle.typing_spec.specs.Approval.{member_misapproved}
use Rattle.typing_spec.specs.Declarations.{structs, functions, fields, has_dynamic_owns, has_volatile_owns}
use Rattle.typing_spec.specs.Functions.{no_main}
use Rattle.typing_spec.specs.Names.{repeated, variables}
use Rattle.typing_spec.specs.Pieces.{Piece, Program, Struct, Function, member, item}
use Rattle.typing_spec.specs.Places.{place_if}
use Rattle.typing_spec.specs.Rules as r
use Rattle.typing_spec.specs.Rules.{Rule}
use Rattle.typing_spec.specs.First.{Fault, faults, first_of, first_broken, all_at, earlier}
use Rattle.typing_spec.specs.FirstLaws.{first_append, first_of_pieces, earlier_grouped, earlier_turned}
use Rattle.typing_expressions.specs.declared.violations.Diagnostics.{Diagnostics}
use Rattle.typing_expressions.specs.Violations.{Violations, violations, broken_if}
use Rattle.typing_expressions.specs.Views.{findings, maybe_broken}
use Rattle.typing_expressions.proofs.Judgements.{one, last}
use Rattle.typing_expressions.proofs.Rows.{all_at_append, take_at}
use Rattle.typing_statements.specs.Parts.{function_parts}
use Rattle.typing_spec.specs.DeclaredVariables.{function_names, variables_are}
use Rattle.typing_program.specs.Names.{field_names}
use Rattle.typing_program.specs.Violation.{twice, first_in, is_out_of_form, is_open, misapprovals, struct_own, function_own, names_first, is_main, struct_first, function_first, structs_first, functions_first}
use Rattle.typing_program.proofs.Repeated.{alone}

-- what was found of pieces has what they break first
pub first_found : (f : Diagnostics) (xs : List Piece) → findings f ≡ violations xs → maybe_broken f.first ≡ first_in xs
unfolding violations
first_found f xs h = ap (λ (z : Violations). z.first) h

-- a piece in front of others
following : (x : Piece) (xs : List Piece) → first_in (x ∷ xs) ≡ earlier (first_of (faults x)) (first_in xs)
following x xs = first_append (faults x) (flat_map faults xs)

-- ---- structs

struct_faults : (items : List Item) (s : StructTree) → first_of (faults (Struct items s)) ≡ struct_own s
struct_faults items s =
    let names = field_names s.members in
    let b = (has_dynamic_owns s && has_volatile_owns s) || (length (fields s.members) == 0) in
    let approvals = all_at r.ApprovalForm (flat_map (member_misapproved s) s.members) in
    first_append (all_at r.DeclaredTwice (repeated [] names)) (all_at r.StructForm (place_if b s.name.place) ++ (approvals ++ []))
    ∙ (ap (earlier (twice names)) (one b r.StructForm s.name.place (approvals ++ []) ∙ ap (λ (fs : List Fault). earlier (broken_if b r.StructForm s.name.place) (first_of fs)) (append-nil approvals))
    ∙ ap (λ (n : ℕ). earlier (twice names) (earlier (broken_if ((has_dynamic_owns s && has_volatile_owns s) || (n == 0)) r.StructForm s.name.place) (misapprovals s s.members))) (sym (length-map (fields s.members) (λ (f : FieldTree). f.name))))

pub struct_is : (items : List Item) (s : StructTree) → struct_first items s ≡ earlier (struct_own s) (first_in (flat_map (member items s) s.members))
struct_is items s = following (Struct items s) (flat_map (member items s) s.members) ∙ ap (λ (o : Option Fault). earlier o (first_in (flat_map (member items s) s.members))) (struct_faults items s)

-- ---- functions

-- a function that has a value in the code has one in its tree
pub has_value : {X Y : Type 0} (f : X → Y) (o : Option X) → is_some (option_map f o) ≡ is_some o
has_value f None = refl
has_value f (Some x) = refl

function_faults : (items : List Item) (f : FunctionTree) → first_of (faults (Function items f)) ≡ function_own f
function_faults items f =
    let b = is_open f in
    let form = broken_if b r.ReturnForm f.body.end in
    first_append (all_at r.DeclaredTwice (repeated [] (variables items f))) (all_at r.ReturnForm (place_if b f.body.end) ++ [])
    ∙ (ap (earlier (twice (variables items f))) (last b r.ReturnForm f.body.end) ∙ ap (λ (ns : List Id). earlier (twice ns) form) (variables_are items f))

pub function_is : (items : List Item) (f : FunctionTree) → function_first items f ≡ earlier (function_own f) (first_in (function_parts items f))
function_is items f = following (Function items f) (function_parts items f) ∙ ap (λ (o : Option Fault). earlier o (first_in (function_parts items f))) (function_faults items f)

-- ---- put together

either : {o o2 q q2 : Option Fault} → o ≡ o2 → q ≡ q2 → earlier o q ≡ earlier o2 q2
either h k = λ i. earlier (h i) (k i)

pub struct_together : (s : StructTree) (names : List Id) (b : Bool) (one two three both after : Option Fault) → names ≡ field_names s.members → one ≡ twice names → b ≡ is_out_of_form s names → two ≡ broken_if b r.StructForm s.name.place → three ≡ misapprovals s s.members
    → both ≡ earlier two three → after ≡ earlier one both → after ≡ struct_own s
struct_together s names b one two three both after e h k l n o m =
    m ∙ either (h ∙ ap twice e) (o ∙ either (l ∙ ap (λ (d : Bool). broken_if d r.StructForm s.name.place) (k ∙ ap (is_out_of_form s) e)) n)

pub function_together : (f : FunctionTree) (names : List Id) (b : Bool) (one two after : Option Fault) → names ≡ function_names f → one ≡ twice names → b ≡ is_open f → two ≡ broken_if b r.ReturnForm f.body.end
    → after ≡ earlier one two → after ≡ function_own f
function_together f names b one two after e h k l m = m ∙ either (h ∙ ap twice e) (l ∙ ap (λ (d : Bool). broken_if d r.ReturnForm f.body.end) k)

pub struct_with_members : (items : List Item) (s : StructTree) (own after : Option Fault) (inner : Diagnostics) → own ≡ struct_own s → findings inner ≡ violations (flat_map (member items s) s.members) → after ≡ earlier own (maybe_broken inner.first) → after ≡ struct_first items s
struct_with_members items s own after inner h k m = m ∙ (either h (first_found inner (flat_map (member items s) s.members) k) ∙ sym (struct_is items s))

pub function_with_parts : (items : List Item) (f : FunctionTree) (own after : Option Fault) (inner : Diagnostics) → own ≡ function_own f → findings inner ≡ violations (function_parts items f) → after ≡ earlier own (maybe_broken inner.first) → after ≡ function_first items f
function_with_parts items f own after inner h k m = m ∙ (either h (first_found inner (function_parts items f) k) ∙ sym (function_is items f))

-- ---- approvals

misapprovals_more : (s : StructTree) (ms : List Member) (m : Member) → misapprovals s (ms ++ m ∷ []) ≡ earlier (misapprovals s ms) (misapprovals s (m ∷ []))
misapprovals_more s ms m =
    let here = flat_map (member_misapproved s) ms in
    let there = flat_map (member_misapproved s) (m ∷ []) in
    ap (λ (ps : List Span). first_of (all_at r.ApprovalForm ps)) (flat_map-append (member_misapproved s) ms (m ∷ []))
    ∙ (ap first_of (all_at_append r.ApprovalForm here there) ∙ first_append (all_at r.ApprovalForm here) (all_at r.ApprovalForm there))

-- a loop over members
pub misapprovals_next : {X : Type 0} (s : StructTree) (v : X → Member) (xs : List X) (i : ℕ) (x : X) (so_far one after : Option Fault) → i < length xs → x ≡ get_or xs i x → so_far ≡ misapprovals s (map v (take i xs)) → one ≡ misapprovals s (v x ∷ []) → after ≡ earlier so_far one
    → after ≡ misapprovals s (map v (take (i + 1) xs))
misapprovals_next s v xs i x so_far one after lt is h k m = m ∙ (either h k ∙ (sym (misapprovals_more s (map v (take i xs)) (v x)) ∙ ap (misapprovals s) (sym (take_at v xs i x lt is))))

-- ---- several

each_more : {X : Type 0} (f : X → List Piece) (xs : List X) (y : X) → first_in (flat_map f (xs ++ y ∷ [])) ≡ earlier (first_in (flat_map f xs)) (first_in (f y))
each_more f xs y =
    ap first_in (flat_map-append f xs (y ∷ []))
    ∙ (first_of_pieces (flat_map f xs) (f y ++ []) ∙ ap (λ (ps : List Piece). earlier (first_in (flat_map f xs)) (first_in ps)) (append-nil (f y)))

structs_more : (items : List Item) (ss : List StructTree) (s : StructTree) → structs_first items (ss ++ s ∷ []) ≡ earlier (structs_first items ss) (struct_first items s)
structs_more items ss s = each_more (λ (z : StructTree). item items (i.Struct z)) ss s

-- a loop over them
pub structs_next : {X : Type 0} (items : List Item) (v : X → StructTree) (xs : List X) (i : ℕ) (x : X) (so_far one after : Option Fault) → i < length xs → x ≡ get_or xs i x → so_far ≡ structs_first items (map v (take i xs)) → one ≡ struct_first items (v x) → after ≡ earlier so_far one
    → after ≡ structs_first items (map v (take (i + 1) xs))
structs_next items v xs i x so_far one after lt is h k m = m ∙ (either h k ∙ (sym (structs_more items (map v (take i xs)) (v x)) ∙ ap (structs_first items) (sym (take_at v xs i x lt is))))

functions_more : (items : List Item) (fs : List FunctionTree) (f : FunctionTree) → functions_first items (fs ++ f ∷ []) ≡ earlier (functions_first items fs) (function_first items f)
functions_more items fs f = each_more (λ (z : FunctionTree). item items (i.Function z)) fs f

pub functions_next : {X : Type 0} (items : List Item) (v : X → FunctionTree) (xs : List X) (i : ℕ) (x : X) (so_far one after : Option Fault) → i < length xs → x ≡ get_or xs i x → so_far ≡ functions_first items (map v (take i xs)) → one ≡ function_first items (v x) → after ≡ earlier so_far one
    → after ≡ functions_first items (map v (take (i + 1) xs))
functions_next items v xs i x so_far one after lt is h k m = m ∙ (either h k ∙ (sym (functions_more items (map v (take i xs)) (v x)) ∙ ap (functions_first items) (sym (take_at v xs i x lt is))))

-- ---- programs

-- the structs and then the functions
apart : (items xs : List Item) → first_in (flat_map (item items) xs) ≡ earlier (structs_first items (structs xs)) (functions_first items (functions xs))
apart items [] = refl
apart items (i.Struct s ∷ xs) =
    let ss = structs_first items (structs xs) in
    let fs = functions_first items (functions xs) in
    first_of_pieces (item items (i.Struct s)) (flat_map (item items) xs)
    ∙ (ap (earlier (struct_first items s)) (apart items xs)
    ∙ (sym (earlier_grouped (struct_first items s) ss fs)
    ∙ ap (λ (o : Option Fault). earlier o fs) (sym (first_of_pieces (item items (i.Struct s)) (flat_map (λ (z : StructTree). item items (i.Struct z)) (structs xs))))))
apart items (i.Function f ∷ xs) =
    let ss = structs_first items (structs xs) in
    let fs = functions_first items (functions xs) in
    let one = function_first items f in
    first_of_pieces (item items (i.Function f)) (flat_map (item items) xs)
    ∙ (ap (earlier one) (apart items xs)
    ∙ (sym (earlier_grouped one ss fs)
    ∙ (ap (λ (o : Option Fault). earlier o fs) (earlier_turned one ss)
    ∙ (earlier_grouped ss one fs
    ∙ ap (earlier ss) (sym (first_of_pieces (item items (i.Function f)) (flat_map (λ (z : FunctionTree). item items (i.Function z)) (functions xs))))))))

program_faults : (items : List Item) → first_of (faults (Program items)) ≡ names_first (structs items) (functions items)
program_faults items =
    let ss = repeated [] (map (λ (s : StructTree). s.name) (structs items)) in
    let fs = repeated [] (map (λ (f : FunctionTree). f.name) (functions items)) in
    ap first_of (append-nil (all_at r.DeclaredTwice (ss ++ fs)))
    ∙ (ap first_of (map-append (λ (p : Span). (r.DeclaredTwice, p)) ss fs) ∙ first_append (all_at r.DeclaredTwice ss) (all_at r.DeclaredTwice fs))

-- the first broken rule of a program, part by part
pub program_is : (items : List Item) (end : Span)
    → first_broken items end
    ≡ earlier (earlier (names_first (structs items) (functions items)) (earlier (structs_first items (structs items)) (functions_first items (functions items)))) (broken_if (not (list_any is_main (functions items))) r.NoMain end)
program_is items end =
    let names = names_first (structs items) (functions items) in
    let inner = first_in (flat_map (item items) items) in
    first_append (flat_map faults (Program items ∷ flat_map (item items) items)) (all_at r.NoMain (no_main items end))
    ∙ (ap (λ (o : Option Fault). earlier o (first_of (all_at r.NoMain (no_main items end)))) (following (Program items) (flat_map (item items) items) ∙ (ap (λ (o : Option Fault). earlier o inner) (program_faults items) ∙ ap (earlier names) (apart items items)))
    ∙ ap (earlier (earlier names (earlier (structs_first items (structs items)) (functions_first items (functions items))))) (alone (not (list_any is_main (functions items))) r.NoMain end))

pub names_together : (ss : List StructTree) (fs : List FunctionTree) (ms ns : List Id) (one two after : Option Fault) → ms ≡ map (λ (s : StructTree). s.name) ss → one ≡ twice ms → ns ≡ map (λ (f : FunctionTree). f.name) fs → two ≡ twice ns → after ≡ earlier one two → after ≡ names_first ss fs
names_together ss fs ms ns one two after p h q k m = m ∙ either (h ∙ ap twice p) (k ∙ ap twice q)

pub program_together : (items : List Item) (end : Span) (ss : List StructTree) (fs : List FunctionTree) (b d : Bool) (names inner outer both parts last after : Option Fault) → ss ≡ structs items → fs ≡ functions items → names ≡ names_first ss fs → inner ≡ structs_first items ss
    → outer ≡ functions_first items fs → b ≡ list_any is_main fs → d ≡ not b → last ≡ broken_if d r.NoMain end → both ≡ earlier inner outer → parts ≡ earlier names both → after ≡ earlier parts last → after ≡ first_broken items end
program_together items end ss fs b d names inner outer both parts last after p q h k l m n o x y z =
    let n1 = h ∙ (λ i. names_first (p i) (q i)) in
    let n2 = x ∙ either (k ∙ ap (structs_first items) p) (l ∙ ap (functions_first items) q) in
    z ∙ (either (y ∙ either n1 n2) (o ∙ ap (λ (w : Bool). broken_if w r.NoMain end) (n ∙ ap not (m ∙ ap (list_any is_main) q))) ∙ sym (program_is items end))
