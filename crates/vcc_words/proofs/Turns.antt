-- What one word makes of the parser's walk behind `verify`, and what fails at it.
use Rattle.std.proofs.Common.{◌≡◌, ℕ, Bool, true, false, cond, eqb, ◌&&◌, List, [], ◌∷◌, ◌++◌, codes, Option, Some, None, refl, sym, ap, ◌∙◌, inl, inr, arith}
use Rattle.std.specs.Option.{option_map_or}
use Rattle.std.specs.Str.{bytes_eq}
use Rattle.std.proofs.lemmas.Bool.{ne_eqb}
use Rattle.clap.specs.Lexer.{long_of, short_of}
use Rattle.clap.specs.Kinds.{Kinds, or_else}
use Rattle.clap.specs.Faults.{bundle_fault, flag_word_fault, other_fault, settle_fault, step_fault, turn_fault}
use Rattle.clap.specs.Walk.{Held, Row, Rule, Step, Text, Waiting, Walk, after_step, has_row, idle, is_pending, long_or_other, nothing_held, option, plain_word, pushed, settled, settled_rows, short_or_plain, subcommand_or_other, trailing, value, walked, word_met}
use Rattle.clap.specs.Simple.{Shape, help_rule, new_shape}
use Rattle.clap.specs.declared.builder.action.ArgAction.TheVariants.{Set}
use Rattle.clap.specs.declared.builder.value_parser.ValueParser.TheVariants as vp
use Rattle.clap.specs.declared.error.kind.ErrorKind.{ErrorKind}
use Rattle.clap.specs.declared.error.kind.ErrorKind.TheVariants as kind
use Rattle.vcc_words.specs.Words.{IsName}
use Rattle.vcc_words.specs.Options.{source, cert, leaves, rounds}
use Rattle.vcc_words.specs.Arguments.{IsOptionWord}
use Rattle.vcc_words.proofs.Stages.{Limit, of_leaves, of_rounds, id_of, word_of, add}

-- ---- the command, as clap builds it

abbrev whole_rule : Rule → Option ℕ → Rule
whole_rule a place = record a {
  index = place;
  action = Some Set;
  range = Some (record { start_inclusive = 1; end_inclusive = 1 });
  parser = Some vp.String;
}

abbrev last_rule : Rule
last_rule = record help_rule { range = Some (record { start_inclusive = 0; end_inclusive = 0 }); parser = Some vp.String }

unfoldable pub top : Shape
top = record (new_shape (codes "verify")) {
  rules = whole_rule source (Some 1) ∷ whole_rule cert (Some 2) ∷ whole_rule leaves None ∷ whole_rule rounds None ∷ last_rule ∷ [];
  no_binary_name = true;
  disable_help_subcommand = true;
  is_built = true;
}

abbrev pub c : List Rule
c = top.rules

abbrev again : Bool
again = top.args_override_self

-- ---- faults and tests

pub or_nil : (xs ys : Kinds) → or_else xs ys ≡ [] → (xs ≡ []) × (ys ≡ [])
or_nil [] ys e = (refl, e)
or_nil (x ∷ xs) ys e = let f : x ∷ xs ≡ [] = e in absurd cc

pub nil_or : (xs ys : Kinds) → xs ≡ [] → ys ≡ [] → or_else xs ys ≡ []
nil_or [] ys e f = f
nil_or (x ∷ xs) ys e f = e

pub some_kind : (k : ErrorKind) (kinds : Kinds) → kinds ≡ k ∷ [] → kinds ≡ [] → ⊥
some_kind k kinds e f = let g : k ∷ [] ≡ [] = sym e ∙ f in cc

and_false : (b : Bool) → (b && false) ≡ false
and_false true = refl
and_false false = refl

-- the fault of a second use
abbrev pub repeats : Bool → Kinds
repeats b = or_else (cond (b && true) (kind.ArgumentConflict ∷ []) []) []

pub repeats_not : (b : Bool) → repeats b ≡ [] → b ≡ false
repeats_not true e = let f : kind.ArgumentConflict ∷ [] ≡ [] = e in absurd cc
repeats_not false e = refl

pub not_repeats : (b : Bool) → b ≡ false → repeats b ≡ []
not_repeats true e = absurd cc
not_repeats false e = refl

-- ---- where the walk stands

abbrev pub idle_at : Held → ℕ → Walk
idle_at h n = record { held = h; waiting = idle; position = n; is_trailing = false; stopped = None }

abbrev pub waits_at : Text → List Row → ℕ → ℕ → Walk
waits_at id rows skip n = record {
  held = record { rows = rows; pending = Some (id, []); skip = skip };
  waiting = option id;
  position = n;
  is_trailing = false;
  stopped = None;
}

abbrev pub pending_with : Text → Text → List Row → ℕ → Held
pending_with id v rows skip = record { rows = rows; pending = Some (id, v ∷ []); skip = skip }

abbrev pub with_row : Text → Text → List Row → ℕ → Held
with_row id v rows skip = record { rows = add id v rows; pending = None; skip = skip }

-- the rows, once what is pending is used
unfoldable pub rows_at : Held → List Row
rows_at h = settled_rows c h.pending h.rows

-- what fails when it is used
unfoldable pub settles : Held → Kinds
settles h = settle_fault c again h

-- what fails at a word
unfoldable pub fault_at : Walk → Text → Kinds
fault_at w x = turn_fault top [] w x

-- the walk behind the word, and what fails at it
pub record Turn (w : Walk) (x : Text) (v : Walk) (kinds : Kinds) : Type 0 where
  pub walk : walked c [] w x ≡ v
  pub fault : fault_at w x ≡ kinds

-- ---- what is pending

abbrev Pends : Text → Type 0
Pends id = (rows : List Row) (skip : ℕ) (v : Text) → (settles (pending_with id v rows skip) ≡ repeats (has_row id rows)) × (rows_at (pending_with id v rows skip) ≡ add id v rows)

pub source_pends : Pends (codes "source")
unfolding settles rows_at top add
source_pends rows skip v = (refl, refl)

pub cert_pends : Pends (codes "cert")
unfolding settles rows_at top add
cert_pends rows skip v = (refl, refl)

pub limit_pends : (o : Limit) → Pends (id_of o)
unfolding settles rows_at top add
limit_pends of_leaves rows skip v = (refl, refl)
limit_pends of_rounds rows skip v = (refl, refl)

-- an option that waits for its text
pub waits_fault : (o : Limit) (rows : List Row) (skip n : ℕ) → settles (waits_at (id_of o) rows skip n).held ≡ kind.InvalidValue ∷ []
unfolding settles top
waits_fault of_leaves rows skip n = refl
waits_fault of_rounds rows skip n = refl

pub row_settles : (id v : Text) (rows : List Row) (skip : ℕ) → (settles (with_row id v rows skip) ≡ []) × (rows_at (with_row id v rows skip) ≡ add id v rows)
unfolding settles rows_at
row_settles id v rows skip = (refl, refl)

pub nothing_settles : (settles nothing_held ≡ []) × (rows_at nothing_held ≡ [])
unfolding settles rows_at
nothing_settles = (refl, refl)

-- ---- names

abbrev either : Bool → Held × Step → Held × Step → Held × Step
either b x y = cond b x y

abbrev pick : Bool → Kinds → Kinds → Kinds
pick b x y = cond b x y

abbrev held_if : Bool → Held → Held → Held
held_if b x y = cond b x y

named : (w : Text) → IsName w → (bytes_eq w (45 ∷ 45 ∷ []) ≡ false) × (long_of w ≡ None) × (short_of w ≡ None)
named [] h = absurd (omega (arith, h.0))
named (b ∷ bs) h =
    let e : eqb b 45 ≡ false = ne_eqb b 45 h.1 in
    (rw e refl, rw e refl, rw e refl)

met_none : (waiting : Waiting) (h : Held) (n : ℕ) (w : Text) → IsName w → subcommand_or_other c None waiting n w h ≡ plain_word c waiting w h
met_none waiting h n w is =
    let e = named w is in
    ap (λ (b : Bool). either b (h, trailing n) (long_or_other c waiting w (long_of w) h)) e.0 ∙ ap (λ (o : Option (Text × Option Text)). long_or_other c waiting w o h) e.1 ∙ ap (λ (o : Option Text). short_or_plain c waiting w o h) e.2

no_fault : (h : Held) (w : Text) → IsName w → other_fault top None w h ≡ []
no_fault h w is =
    let e = named w is in
    ap (λ (b : Bool). pick b [] (flag_word_fault c again (long_of w) w h)) e.0 ∙ ap (λ (o : Option (Text × Option Text)). flag_word_fault c again o w h) e.1 ∙ ap (λ (o : Option Text). option_map_or (λ flags. bundle_fault c again flags h) o []) e.2

idle_fault : (n : ℕ) (h : Held) (w : Text) → IsName w → fault_at (idle_at h n) w ≡ step_fault top n h value
unfolding fault_at
idle_fault n h w is =
    ap (λ (x : Kinds). or_else x (step_fault top n (word_met c [] false idle n w h).0 (word_met c [] false idle n w h).1)) (no_fault h w is) ∙ ap (λ (m : Held × Step). step_fault top n m.0 m.1) (met_none idle h n w is)

source_fault : (h : Held) (w : Text) → IsName w → fault_at (idle_at h 1) w ≡ settles h
unfolding top settles
source_fault h w is = idle_fault 1 h w is ∙ ap (λ (b : Bool). pick b [] (settle_fault c again h)) (and_false (is_pending (whole_rule source (Some 1)) h.pending))

cert_fault : (h : Held) (w : Text) → IsName w → fault_at (idle_at h 2) w ≡ settles h
unfolding top settles
cert_fault h w is = idle_fault 2 h w is ∙ ap (λ (b : Bool). pick b [] (settle_fault c again h)) (and_false (is_pending (whole_rule cert (Some 2)) h.pending))

source_walk : (h : Held) (w : Text) → IsName w → walked c [] (idle_at h 1) w ≡ idle_at (pending_with (codes "source") w (rows_at h) h.skip) 2
unfolding walked top rows_at
source_walk h w is = ap (λ (m : Held × Step). after_step c w (idle_at h 1) m.0 m.1) (met_none idle h 1 w is) ∙ ap (λ (b : Bool). idle_at (pushed (codes "source") w (held_if b h (settled c h))) 2) (and_false (is_pending (whole_rule source (Some 1)) h.pending))

cert_walk : (h : Held) (w : Text) → IsName w → walked c [] (idle_at h 2) w ≡ idle_at (pending_with (codes "cert") w (rows_at h) h.skip) 3
unfolding walked top rows_at
cert_walk h w is = ap (λ (m : Held × Step). after_step c w (idle_at h 2) m.0 m.1) (met_none idle h 2 w is) ∙ ap (λ (b : Bool). idle_at (pushed (codes "cert") w (held_if b h (settled c h))) 3) (and_false (is_pending (whole_rule cert (Some 2)) h.pending))

pub source_turn : (h : Held) (w : Text) → IsName w → Turn (idle_at h 1) w (idle_at (pending_with (codes "source") w (rows_at h) h.skip) 2) (settles h)
source_turn h w is = record { walk = source_walk h w is; fault = source_fault h w is }

pub cert_turn : (h : Held) (w : Text) → IsName w → Turn (idle_at h 2) w (idle_at (pending_with (codes "cert") w (rows_at h) h.skip) 3) (settles h)
cert_turn h w is = record { walk = cert_walk h w is; fault = cert_fault h w is }

-- a third name
pub third_fault : (h : Held) (w : Text) → IsName w → fault_at (idle_at h 3) w ≡ kind.UnknownArgument ∷ []
unfolding top
third_fault h w is = idle_fault 3 h w is

-- ---- options

pub joined_turn : (o : Limit) (h : Held) (n : ℕ) (x : Text) → Turn (idle_at h n) (word_of o ++ 61 ∷ x) (idle_at (with_row (id_of o) x (rows_at h) h.skip) n) (or_else (or_else (settles h) (repeats (has_row (id_of o) (rows_at h)))) [])
unfolding walked fault_at top settles rows_at add
joined_turn of_leaves h n x = record { walk = refl; fault = refl }
joined_turn of_rounds h n x = record { walk = refl; fault = refl }

pub apart_turn : (o : Limit) (h : Held) (n : ℕ) → Turn (idle_at h n) (word_of o) (waits_at (id_of o) (rows_at h) h.skip n) (or_else (settles h) [])
unfolding walked fault_at top settles rows_at
apart_turn of_leaves h n = record { walk = refl; fault = refl }
apart_turn of_rounds h n = record { walk = refl; fault = refl }

text_fault : (id : Text) (rows : List Row) (skip n : ℕ) (x : Text) → IsName x → fault_at (waits_at id rows skip n) x ≡ []
unfolding fault_at
text_fault id rows skip n x is =
    let w = waits_at id rows skip n in
    ap (λ (k : Kinds). or_else k (step_fault top n (word_met c [] false w.waiting n x w.held).0 (word_met c [] false w.waiting n x w.held).1)) (no_fault w.held x is) ∙ ap (λ (m : Held × Step). step_fault top n m.0 m.1) (met_none w.waiting w.held n x is)

text_walk : (o : Limit) (rows : List Row) (skip n : ℕ) (x : Text) → IsName x → walked c [] (waits_at (id_of o) rows skip n) x ≡ idle_at (pending_with (id_of o) x rows skip) n
unfolding walked top
text_walk of_leaves rows skip n x is =
    let w = waits_at (codes "leaves") rows skip n in
    ap (λ (m : Held × Step). after_step c x w m.0 m.1) (met_none w.waiting w.held n x is)
text_walk of_rounds rows skip n x is =
    let w = waits_at (codes "rounds") rows skip n in
    ap (λ (m : Held × Step). after_step c x w m.0 m.1) (met_none w.waiting w.held n x is)

pub text_turn : (o : Limit) (rows : List Row) (skip n : ℕ) (x : Text) → IsName x → Turn (waits_at (id_of o) rows skip n) x (idle_at (pending_with (id_of o) x rows skip) n) []
text_turn o rows skip n x is = record { walk = text_walk o rows skip n x is; fault = text_fault (id_of o) rows skip n x is }

-- an option where another one waits for its text

other_alone : (o p : Limit) (rows : List Row) (skip n : ℕ) → fault_at (waits_at (id_of o) rows skip n) (word_of p) ≡ kind.InvalidValue ∷ []
unfolding fault_at top
other_alone of_leaves of_leaves rows skip n = refl
other_alone of_leaves of_rounds rows skip n = refl
other_alone of_rounds of_leaves rows skip n = refl
other_alone of_rounds of_rounds rows skip n = refl

other_joined : (o p : Limit) (rows : List Row) (skip n : ℕ) (x : Text) → fault_at (waits_at (id_of o) rows skip n) (word_of p ++ 61 ∷ x) ≡ kind.InvalidValue ∷ []
unfolding fault_at top
other_joined of_leaves of_leaves rows skip n x = refl
other_joined of_leaves of_rounds rows skip n x = refl
other_joined of_rounds of_leaves rows skip n x = refl
other_joined of_rounds of_rounds rows skip n x = refl

pub no_text : (o p : Limit) (rows : List Row) (skip n : ℕ) (y : Text) → IsOptionWord (word_of p) y → fault_at (waits_at (id_of o) rows skip n) y ≡ [] → ⊥
no_text o p rows skip n y is e =
    elim is [
      | inl f ↦ some_kind kind.InvalidValue (fault_at (waits_at (id_of o) rows skip n) y) (ap (fault_at (waits_at (id_of o) rows skip n)) f ∙ other_alone o p rows skip n) e
      | inr f ↦ some_kind kind.InvalidValue (fault_at (waits_at (id_of o) rows skip n) y) (ap (fault_at (waits_at (id_of o) rows skip n)) f.1 ∙ other_joined o p rows skip n f.0) e
    ]
