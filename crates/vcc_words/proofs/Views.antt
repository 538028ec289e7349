-- The rows that clap has behind the words, by the names and options that are there.
use Rattle.std.proofs.Common.{◌≡◌, Bool, true, false, cond, ◌||◌, List, [], ◌∷◌, ◌++◌, codes, Option, Some, None, is_some, refl, sym, ap, subst, ◌∙◌, append-nil}
use Rattle.std.specs.Prelude.{option_map, option_and_then, option_to_list, find, slice_get}
use Rattle.std.specs.Option.{option_map_or}
use Rattle.std.specs.Str.{bytes_eq}
use Rattle.clap.specs.Facts.{explicit_source}
use Rattle.clap.specs.Takes.{is_given}
use Rattle.clap.specs.Walk.{Row, Text, at_row, first_of, has_row, more_values, without, with_values}
use Rattle.clap.specs.declared.builder.value_parser.Reading.TheVariants.{AsWritten}
use Rattle.clap.specs.declared.parser.matches.ValueSource.TheVariants.{CommandLine}
use Rattle.vcc_words.specs.Arguments.{Piece, Name, Leaves, Rounds, names_in, leaves_in, rounds_in}
use Rattle.vcc_words.proofs.Stages.{Fresh, Stage, HasRoom, add, after, both, grow, neither, next_name, one}

abbrev at : Text → List Row → Option Row
at id rows = find (λ r. bytes_eq r.id id) rows

abbrev row : Text → Text → Row
row id v = record { id = id; values = v ∷ []; count = None; source = Some CommandLine; reading = AsWritten }

-- ---- a row more

none_at : (id : Text) (rows : List Row) → has_row id rows ≡ false → at id rows ≡ None
none_at id [] e = refl
none_at id (r ∷ rs) e = go (bytes_eq r.id id) e (λ f. none_at id rs f)
  where
    go : (b : Bool) → (b || has_row id rs) ≡ false → (has_row id rs ≡ false → at id rs ≡ None) → cond b (Some r) (at id rs) ≡ None
    go true f more = absurd cc
    go false f more = more f

no_row : (id : Text) (rows : List Row) → at id rows ≡ None → has_row id rows ≡ false
no_row id [] e = refl
no_row id (r ∷ rs) e = go (bytes_eq r.id id) e (λ f. no_row id rs f)
  where
    go : (b : Bool) → cond b (Some r) (at id rs) ≡ None → (at id rs ≡ None → has_row id rs ≡ false) → (b || has_row id rs) ≡ false
    go true f more = absurd cc
    go false f more = more f

missing_row : (id : Text) (change : Row → List Row) (missing : List Row) (rows : List Row) → has_row id rows ≡ false → at_row id change missing rows ≡ rows ++ missing
missing_row id change missing [] e = refl
missing_row id change missing (r ∷ rs) e = go (bytes_eq r.id id) e (λ f. missing_row id change missing rs f)
  where
    go : (b : Bool) → (b || has_row id rs) ≡ false → (has_row id rs ≡ false → at_row id change missing rs ≡ rs ++ missing) → cond b (change r ++ rs) (r ∷ at_row id change missing rs) ≡ r ∷ (rs ++ missing)
    go true f more = absurd cc
    go false f more = ap (λ (xs : List Row). r ∷ xs) (more f)

added : (id v : Text) (rows : List Row) → has_row id rows ≡ false → add id v rows ≡ rows ++ row id v ∷ []
unfolding add
added id v rows e =
    let same : without id rows ≡ rows = missing_row id (λ _. []) [] rows e ∙ append-nil rows in
    ap (with_values id AsWritten CommandLine (v ∷ [])) same ∙ missing_row id (more_values CommandLine (v ∷ [])) (row id v ∷ []) rows e

kept : (j : Text) (rows : List Row) (x r : Row) → at j rows ≡ Some r → at j (rows ++ x ∷ []) ≡ Some r
kept j [] x r e = absurd cc
kept j (y ∷ ys) x r e = go (bytes_eq y.id j) e (λ f. kept j ys x r f)
  where
    go : (b : Bool) → cond b (Some y) (at j ys) ≡ Some r → (at j ys ≡ Some r → at j (ys ++ x ∷ []) ≡ Some r) → cond b (Some y) (at j (ys ++ x ∷ [])) ≡ Some r
    go true f more = f
    go false f more = more f

pushed : (j : Text) (rows : List Row) (x : Row) → at j rows ≡ None → at j (rows ++ x ∷ []) ≡ at j (x ∷ [])
pushed j [] x e = refl
pushed j (y ∷ ys) x e = go (bytes_eq y.id j) e (λ f. pushed j ys x f)
  where
    go : (b : Bool) → cond b (Some y) (at j ys) ≡ None → (at j ys ≡ None → at j (ys ++ x ∷ []) ≡ at j (x ∷ [])) → cond b (Some y) (at j (ys ++ x ∷ [])) ≡ at j (x ∷ [])
    go true f more = absurd cc
    go false f more = more f

other : (j : Text) (rows : List Row) (x : Row) (t : Option Text) → at j (x ∷ []) ≡ None → at j rows ≡ option_map (row j) t → at j (rows ++ x ∷ []) ≡ option_map (row j) t
other j rows x None none e = pushed j rows x e ∙ none
other j rows x (Some v) none e = kept j rows x (row j v) e

-- ---- the four rows

-- what the rows have for each argument
pub record View (rows : List Row) (s c l r : Option Text) : Type 0 where
  pub source : at (codes "source") rows ≡ option_map (row (codes "source")) s
  pub cert : at (codes "cert") rows ≡ option_map (row (codes "cert")) c
  pub leaves : at (codes "leaves") rows ≡ option_map (row (codes "leaves")) l
  pub rounds : at (codes "rounds") rows ≡ option_map (row (codes "rounds")) r

pub nothing_there : View [] None None None None
nothing_there = record { source = refl; cert = refl; leaves = refl; rounds = refl }

with_source : (rows : List Row) (v : Text) (c l r : Option Text) → View rows None c l r → View (add (codes "source") v rows) (Some v) c l r
with_source rows v c l r w = subst (λ (xs : List Row). View xs (Some v) c l r) (sym (added (codes "source") v rows (no_row (codes "source") rows w.source))) (record { source = pushed (codes "source") rows (row (codes "source") v) w.source; cert = other (codes "cert") rows (row (codes "source") v) c refl w.cert; leaves = other (codes "leaves") rows (row (codes "source") v) l refl w.leaves; rounds = other (codes "rounds") rows (row (codes "source") v) r refl w.rounds })

with_cert : (rows : List Row) (v : Text) (s l r : Option Text) → View rows s None l r → View (add (codes "cert") v rows) s (Some v) l r
with_cert rows v s l r w = subst (λ (xs : List Row). View xs s (Some v) l r) (sym (added (codes "cert") v rows (no_row (codes "cert") rows w.cert))) (record { source = other (codes "source") rows (row (codes "cert") v) s refl w.source; cert = pushed (codes "cert") rows (row (codes "cert") v) w.cert; leaves = other (codes "leaves") rows (row (codes "cert") v) l refl w.leaves; rounds = other (codes "rounds") rows (row (codes "cert") v) r refl w.rounds })

with_leaves : (rows : List Row) (v : Text) (s c r : Option Text) → View rows s c None r → View (add (codes "leaves") v rows) s c (Some v) r
with_leaves rows v s c r w = subst (λ (xs : List Row). View xs s c (Some v) r) (sym (added (codes "leaves") v rows (no_row (codes "leaves") rows w.leaves))) (record { source = other (codes "source") rows (row (codes "leaves") v) s refl w.source; cert = other (codes "cert") rows (row (codes "leaves") v) c refl w.cert; leaves = pushed (codes "leaves") rows (row (codes "leaves") v) w.leaves; rounds = other (codes "rounds") rows (row (codes "leaves") v) r refl w.rounds })

with_rounds : (rows : List Row) (v : Text) (s c l : Option Text) → View rows s c l None → View (add (codes "rounds") v rows) s c l (Some v)
with_rounds rows v s c l w = subst (λ (xs : List Row). View xs s c l (Some v)) (sym (added (codes "rounds") v rows (no_row (codes "rounds") rows w.rounds))) (record { source = other (codes "source") rows (row (codes "rounds") v) s refl w.source; cert = other (codes "cert") rows (row (codes "rounds") v) c refl w.cert; leaves = other (codes "leaves") rows (row (codes "rounds") v) l refl w.leaves; rounds = pushed (codes "rounds") rows (row (codes "rounds") v) w.rounds })

-- ---- pieces and the rows

-- what the stage says of the names
abbrev pub Stands : Stage → Option Text → Option Text → Type 0
Stands neither s c = (s ≡ None) × (c ≡ None)
Stands one s c = (n : Text) × (s ≡ Some n) × (c ≡ None)
Stands both s c = (n : Text) × (m : Text) × (s ≡ Some n) × (c ≡ Some m)

pub record Looks (t : Stage) (rows : List Row) (s c l r : Option Text) (ps : List Piece) : Type 0 where
  pub source : Option Text
  pub cert : Option Text
  pub leaves : Option Text
  pub rounds : Option Text
  pub view : View (grow t rows ps) source cert leaves rounds
  pub names_are : option_to_list s ++ (option_to_list c ++ names_in ps) ≡ option_to_list source ++ option_to_list cert
  pub leaves_are : option_to_list l ++ leaves_in ps ≡ option_to_list leaves
  pub rounds_are : option_to_list r ++ rounds_in ps ≡ option_to_list rounds

abbrev LookOn : List Piece → Type 0
LookOn ps = (t : Stage) (rows : List Row) (s c l r : Option Text) → View rows s c l r → Stands t s c → Fresh t rows ps → Looks t rows s c l r ps

absent : (id : Text) (rows : List Row) (t : Option Text) → at id rows ≡ option_map (row id) t → has_row id rows ≡ false → t ≡ None
absent id rows None e f = refl
absent id rows (Some v) e f = let g : Some (row id v) ≡ None = sym e ∙ none_at id rows f in absurd cc

no_pieces : (t : Stage) (rows : List Row) (s c l r : Option Text) → View rows s c l r → Looks t rows s c l r []
no_pieces t rows s c l r w = record {
  source = s;
  cert = c;
  leaves = l;
  rounds = r;
  view = w;
  names_are = ap (λ (xs : List Text). option_to_list s ++ xs) (append-nil (option_to_list c));
  leaves_are = append-nil (option_to_list l);
  rounds_are = append-nil (option_to_list r);
}

name_looks : (t : Stage) (rows : List Row) (s c l r : Option Text) (v : Text) (ps : List Piece) → View rows s c l r → Stands t s c → HasRoom t → Fresh (after t) (add (next_name t) v rows) ps → LookOn ps → Looks t rows s c l r (Name v ∷ ps)
name_looks neither rows None None l r v ps w st room f more =
    let m = more one (add (codes "source") v rows) (Some v) None l r (with_source rows v None l r w) (v, refl, refl) f in
    record { source = m.source; cert = m.cert; leaves = m.leaves; rounds = m.rounds; view = m.view; names_are = m.names_are; leaves_are = m.leaves_are; rounds_are = m.rounds_are }
name_looks neither rows None (Some y) l r v ps w st room f more = let e = st.1 in absurd cc
name_looks neither rows (Some x) c l r v ps w st room f more = let e = st.0 in absurd cc
name_looks one rows (Some x) None l r v ps w st room f more =
    let m = more both (add (codes "cert") v rows) (Some x) (Some v) l r (with_cert rows v (Some x) l r w) (x, v, refl, refl) f in
    record { source = m.source; cert = m.cert; leaves = m.leaves; rounds = m.rounds; view = m.view; names_are = m.names_are; leaves_are = m.leaves_are; rounds_are = m.rounds_are }
name_looks one rows (Some x) (Some y) l r v ps w st room f more = let e = st.2 in absurd cc
name_looks one rows None c l r v ps w st room f more = let e = st.1 in absurd cc
name_looks both rows s c l r v ps w st room f more = absurd room

leaves_looks : (t : Stage) (rows : List Row) (s c l r : Option Text) (v : Text) (ps : List Piece) → View rows s c l r → Stands t s c → l ≡ None → Fresh t (add (codes "leaves") v rows) ps → LookOn ps → Looks t rows s c l r (Leaves v ∷ ps)
leaves_looks t rows s c None r v ps w st e f more =
    let m = more t (add (codes "leaves") v rows) s c (Some v) r (with_leaves rows v s c r w) st f in
    record { source = m.source; cert = m.cert; leaves = m.leaves; rounds = m.rounds; view = m.view; names_are = m.names_are; leaves_are = m.leaves_are; rounds_are = m.rounds_are }
leaves_looks t rows s c (Some x) r v ps w st e f more = absurd cc

rounds_looks : (t : Stage) (rows : List Row) (s c l r : Option Text) (v : Text) (ps : List Piece) → View rows s c l r → Stands t s c → r ≡ None → Fresh t (add (codes "rounds") v rows) ps → LookOn ps → Looks t rows s c l r (Rounds v ∷ ps)
rounds_looks t rows s c l None v ps w st e f more =
    let m = more t (add (codes "rounds") v rows) s c l (Some v) (with_rounds rows v s c l w) st f in
    record { source = m.source; cert = m.cert; leaves = m.leaves; rounds = m.rounds; view = m.view; names_are = m.names_are; leaves_are = m.leaves_are; rounds_are = m.rounds_are }
rounds_looks t rows s c l (Some x) v ps w st e f more = absurd cc

pub looks : (ps : List Piece) → LookOn ps
looks [] t rows s c l r w st f = no_pieces t rows s c l r w
looks (Name v ∷ ps) t rows s c l r w st f = name_looks t rows s c l r v ps w st f.0 f.2 (looks ps)
looks (Leaves v ∷ ps) t rows s c l r w st f = leaves_looks t rows s c l r v ps w st (absent (codes "leaves") rows l w.leaves f.0) f.1 (looks ps)
looks (Rounds v ∷ ps) t rows s c l r w st f = rounds_looks t rows s c l r v ps w st (absent (codes "rounds") rows r w.rounds f.0) f.1 (looks ps)

-- ---- two names and each option once are fresh

abbrev FreshOn : List Piece → Type 0
FreshOn ps = (t : Stage) (rows : List Row) (s c l r : Option Text) (a b : Text) (x y : Option Text) → View rows s c l r → Stands t s c → option_to_list s ++ (option_to_list c ++ names_in ps) ≡ a ∷ b ∷ [] → option_to_list l ++ leaves_in ps ≡ option_to_list x → option_to_list r ++ rounds_in ps ≡ option_to_list y → Fresh t rows ps

name_fresh : (t : Stage) (rows : List Row) (s c l r : Option Text) (a b : Text) (x y : Option Text) (v : Text) (ps : List Piece) → View rows s c l r → Stands t s c → option_to_list s ++ (option_to_list c ++ v ∷ names_in ps) ≡ a ∷ b ∷ [] → option_to_list l ++ leaves_in ps ≡ option_to_list x → option_to_list r ++ rounds_in ps ≡ option_to_list y → FreshOn ps → Fresh t rows (Name v ∷ ps)
name_fresh neither rows None None l r a b x y v ps w st n e f more = (tt, no_row (codes "source") rows w.source, more one (add (codes "source") v rows) (Some v) None l r a b x y (with_source rows v None l r w) (v, refl, refl) n e f)
name_fresh neither rows None (Some q) l r a b x y v ps w st n e f more = let g = st.1 in absurd cc
name_fresh neither rows (Some q) c l r a b x y v ps w st n e f more = let g = st.0 in absurd cc
name_fresh one rows (Some q) None l r a b x y v ps w st n e f more = (tt, no_row (codes "cert") rows w.cert, more both (add (codes "cert") v rows) (Some q) (Some v) l r a b x y (with_cert rows v (Some q) l r w) (q, v, refl, refl) n e f)
name_fresh one rows (Some q) (Some z) l r a b x y v ps w st n e f more = let g = st.2 in absurd cc
name_fresh one rows None c l r a b x y v ps w st n e f more = let g = st.1 in absurd cc
name_fresh both rows (Some q) (Some z) l r a b x y v ps w st n e f more = absurd cc
name_fresh both rows None c l r a b x y v ps w st n e f more = let g = st.2 in absurd cc
name_fresh both rows (Some q) None l r a b x y v ps w st n e f more = let g = st.3 in absurd cc

once : (v : Text) (l x : Option Text) (rest : List Text) → option_to_list l ++ v ∷ rest ≡ option_to_list x → l ≡ None
once v None x rest e = refl
once v (Some q) None rest e = absurd cc
once v (Some q) (Some z) rest e = absurd cc

leaves_fresh : (t : Stage) (rows : List Row) (s c l r : Option Text) (a b : Text) (x y : Option Text) (v : Text) (ps : List Piece) → View rows s c l r → Stands t s c → option_to_list s ++ (option_to_list c ++ names_in ps) ≡ a ∷ b ∷ [] → l ≡ None → option_to_list l ++ v ∷ leaves_in ps ≡ option_to_list x → option_to_list r ++ rounds_in ps ≡ option_to_list y → FreshOn ps → Fresh t rows (Leaves v ∷ ps)
leaves_fresh t rows s c None r a b x y v ps w st n none e f more = (no_row (codes "leaves") rows w.leaves, more t (add (codes "leaves") v rows) s c (Some v) r a b x y (with_leaves rows v s c r w) st n e f)
leaves_fresh t rows s c (Some q) r a b x y v ps w st n none e f more = absurd cc

rounds_fresh : (t : Stage) (rows : List Row) (s c l r : Option Text) (a b : Text) (x y : Option Text) (v : Text) (ps : List Piece) → View rows s c l r → Stands t s c → option_to_list s ++ (option_to_list c ++ names_in ps) ≡ a ∷ b ∷ [] → option_to_list l ++ leaves_in ps ≡ option_to_list x → r ≡ None → option_to_list r ++ v ∷ rounds_in ps ≡ option_to_list y → FreshOn ps → Fresh t rows (Rounds v ∷ ps)
rounds_fresh t rows s c l None a b x y v ps w st n e none f more = (no_row (codes "rounds") rows w.rounds, more t (add (codes "rounds") v rows) s c l (Some v) a b x y (with_rounds rows v s c l w) st n e f)
rounds_fresh t rows s c l (Some q) a b x y v ps w st n e none f more = absurd cc

pub fresh : (ps : List Piece) → FreshOn ps
fresh [] t rows s c l r a b x y w st n e f = tt
fresh (Name v ∷ ps) t rows s c l r a b x y w st n e f = name_fresh t rows s c l r a b x y v ps w st n e f (fresh ps)
fresh (Leaves v ∷ ps) t rows s c l r a b x y w st n e f = leaves_fresh t rows s c l r a b x y v ps w st n (once v l x (leaves_in ps) e) e f (fresh ps)
fresh (Rounds v ∷ ps) t rows s c l r a b x y w st n e f = rounds_fresh t rows s c l r a b x y v ps w st n e (once v r y (rounds_in ps) f) f (fresh ps)

-- ---- what is read of them

pub first_is : (id : Text) (rows : List Row) (t : Option Text) → at id rows ≡ option_map (row id) t → first_of id rows ≡ t
first_is id rows None e = ap (option_and_then (λ (r : Row). slice_get r.values 0)) e
first_is id rows (Some v) e = ap (option_and_then (λ (r : Row). slice_get r.values 0)) e

pub given_is : (id : Text) (rows : List Row) (t : Option Text) → at id rows ≡ option_map (row id) t → is_given id rows ≡ is_some t
given_is id rows None e = ap (λ (o : Option Row). option_map_or (λ (r : Row). explicit_source r.source) o false) e
given_is id rows (Some v) e = ap (λ (o : Option Row). option_map_or (λ (r : Row). explicit_source r.source) o false) e
