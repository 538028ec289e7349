-- What is read as a schedule is its text.
use Rattle.std.proofs.Common.{◌≡◌, ℕ, zero, suc, ◌+◌, ◌-◌, ◌^◌, ◌≤◌, ℤ, Bool, true, false, cond, leb, eqb, List, [], ◌∷◌, ◌++◌, length, map, Option, Some, None, Ok, Err, arith, refl, sym, ap, subst, ◌∙◌, append_assoc}
use Rattle.std.proofs.lemmas.Bool.{leb-true, eqb-true}
use Rattle.std.proofs.lemmas.List.{nil_from_length, append-nil}
use Rattle.std.proofs.lemmas.List.Elements.{All-from_recursion}
use Rattle.std.specs.Prelude.{codes, decimal}
use Rattle.std.specs.Cmp.Lexicographic.{same_text}
use Rattle.std.specs.Str.{bytes_eq}
use Rattle.std.specs.List.{flat_map, AllByRecursion, join_with_byte}
use Rattle.object_types.specs.declared.values.Value.{Value}
use Rattle.object_types.specs.declared.values.Value.TheVariants.{Int, Ref as Refers}
use Rattle.object_types.specs.References.{ref, is_reference}
use Rattle.method.specs.Machine.{Event}
use Rattle.decimal_text.specs.Reading.{natural_of, number_of}
use Rattle.decimal_text.proofs.Whole.{natural_of_takes, number_of_takes}
use Rattle.schedule_format.specs.declared.fault.ScheduleFault.{ScheduleFault}
use Rattle.schedule_format.specs.Schedules.{Schedule}
use Rattle.schedule_format.specs.Text.{value_text, values_text, event_text, text_of, Fits, IsEvent, IsScheduleText}
use Rattle.schedule_format.specs.Lines.{pieces, lines_of, words_of}
use Rattle.schedule_format.specs.Reading.{Reads, ◌>>=◌, numbered, integer, referring, value_of, value_in, in_place, behind, one_word, no_more, values_in, same_line, up_to_most, title, arguments, count, event, last, whole_line, line_at, nothing_at, events_at, schedule_of}
use Rattle.schedule_format.proofs.Clear.{pieces_join}

-- ---- steps that gave something

abbrev ok : {A : Type 0} → A → Reads A
ok x = Ok x

pub ok_is : {A : Type 0} (x y : A) → ok x ≡ ok y → x ≡ y
ok_is x y e = cc

pub bind_ok : {A B : Type 0} (read : Reads A) (f : A → Reads B) (y : B) → (read >>= f) ≡ Ok y → (x : A) × (read ≡ Ok x) × (f x ≡ Ok y)
bind_ok (Ok x) f y e = (x, refl, e)
bind_ok (Err e) f y h = absurd cc

cond_ok : {A : Type 0} (b : Bool) (x y : A) (e : ScheduleFault) → cond b (ok x) (Err e) ≡ ok y → (b ≡ true) × (x ≡ y)
cond_ok true x y e h = (refl, ok_is x y h)
cond_ok false x y e h = absurd cc

some_cond : {A : Type 0} (b : Bool) (x y : A) → cond b (Some x) None ≡ Some y → (b ≡ true) × (x ≡ y)
some_cond true x y h = (refl, cc)
some_cond false x y h = absurd cc

in_place_ok : {A : Type 0} (n : ℕ) (o : Option A) (x : A) → in_place n o ≡ Ok x → o ≡ Some x
in_place_ok n None x e = absurd cc
in_place_ok n (Some y) x e = ap (λ (a : _). Some a) (ok_is y x e)

both_same : {A : Type 0} (x y : A) (xs ys : List A) → x ≡ y → xs ≡ ys → x ∷ xs ≡ y ∷ ys
both_same x y xs ys e f = ap (λ (z : _). z ∷ xs) e ∙ ap (λ (zs : List _). y ∷ zs) f

-- ---- values

integer_takes : (o : Option ℤ) (text : List ℕ) (v : Value) → number_of text ≡ o → integer o ≡ Some v → (text ≡ value_text v) × Fits v
integer_takes None text v e h = absurd cc
integer_takes (Some z) text v e h =
    let is : Int z ≡ v = cc in
    subst (λ (w : Value). (text ≡ value_text w) × Fits w) is (number_of_takes text z e)

reference_takes : (ty serial : List ℕ) (o p : Option ℕ) (v : Value) → natural_of (2 ^ 32 - 1) ty ≡ o → natural_of (2 ^ 32 - 1) serial ≡ p → referring (numbered o p) ≡ Some v → (ty ++ 46 ∷ serial ≡ value_text v) × Fits v
reference_takes ty serial None p v e f h = absurd cc
reference_takes ty serial (Some t) None v e f h = absurd cc
reference_takes ty serial (Some t) (Some s) v e f h =
    let a = natural_of_takes (2 ^ 32 - 1) ty t (omega arith) e in
    let b = natural_of_takes (2 ^ 32 - 1) serial s (omega arith) f in
    by_test (is_reference (ref t s)) refl h a b
  where
    by_test : (q : Bool) → is_reference (ref t s) ≡ q → referring (cond q (Some (ref t s)) None) ≡ Some v → (ty ≡ decimal t) × (t ≤ 2 ^ 32 - 1) → (serial ≡ decimal s) × (s ≤ 2 ^ 32 - 1) → (ty ++ 46 ∷ serial ≡ value_text v) × Fits v
    by_test false test h a b = absurd cc
    by_test true test h a b =
        let is : Refers (ref t s) ≡ v = cc in
        let small-t = a.1 in
        let small-s = b.1 in
        subst (λ (w : Value). (ty ++ 46 ∷ serial ≡ value_text w) × Fits w) is (rw (a.0, b.0) refl, (omega arith, omega arith, test))

value_in_takes : (ps : List (List ℕ)) (v : Value) → value_in ps ≡ Some v → (join_with_byte 46 ps ≡ value_text v) × Fits v
value_in_takes [] v e = absurd cc
value_in_takes (number ∷ []) v e = integer_takes (number_of number) number v refl e
value_in_takes (ty ∷ serial ∷ []) v e = reference_takes ty serial (natural_of (2 ^ 32 - 1) ty) (natural_of (2 ^ 32 - 1) serial) v refl refl e
value_in_takes (ty ∷ serial ∷ other ∷ more) v e = absurd cc

pub value_takes : (word : List ℕ) (v : Value) → value_of word ≡ Some v → (word ≡ value_text v) × Fits v
unfolding value_of
value_takes word v e =
    let t = value_in_takes (pieces 46 word) v e in
    (sym (pieces_join 46 word) ∙ t.0, t.1)

values_take : (n : ℕ) (ws : List (List ℕ)) (vs : List Value) → values_in n ws ≡ Ok vs → (ws ≡ map value_text vs) × AllByRecursion Fits vs
unfolding values_in
values_take n [] vs e = subst (λ (us : List Value). ([] ≡ map value_text us) × AllByRecursion Fits us) (ok_is [] vs e) (refl, tt)
values_take n (w ∷ ws) vs e =
    let a = bind_ok (in_place n (value_of w)) (λ v. values_in n ws >>= λ us. Ok (v ∷ us)) vs e in
    let b = bind_ok (values_in n ws) (λ us. Ok (a.0 ∷ us)) vs a.2 in
    let first = value_takes w a.0 (in_place_ok n (value_of w) a.0 a.1) in
    let more = values_take n ws b.0 b.1 in
    subst (λ (us : List Value). (w ∷ ws ≡ map value_text us) × AllByRecursion Fits us) (ok_is (a.0 ∷ b.0) vs b.2) (both_same w (value_text a.0) ws (map value_text b.0) first.0 more.0, (first.1, more.1))

-- ---- words

joined : (w : List ℕ) (vs : List Value) → join_with_byte 32 (w ∷ map value_text vs) ≡ w ++ values_text vs
joined w [] = sym (append-nil w)
joined w (v ∷ vs) = ap (λ (t : List ℕ). w ++ 32 ∷ t) (joined (value_text v) vs)

behind_takes : (n : ℕ) (word : List ℕ) (ws rest : List (List ℕ)) → behind n word ws ≡ Ok rest → ws ≡ word ∷ rest
behind_takes n word [] rest e = absurd cc
behind_takes n word (w ∷ ws) rest e =
    let g = cond_ok (bytes_eq w word) ws rest _ e in
    rw (same_text w word (sym g.0), g.1) refl

one_takes : (n : ℕ) (ws : List (List ℕ)) (x : List ℕ × List (List ℕ)) → one_word n ws ≡ Ok x → ws ≡ x.0 ∷ x.1
one_takes n [] x e = absurd cc
one_takes n (w ∷ ws) x e = ap (λ (y : List ℕ × List (List ℕ)). y.0 ∷ y.1) (ok_is (w, ws) x e)

none_take : (n : ℕ) (ws : List (List ℕ)) (x : Unit {0}) → no_more n ws ≡ Ok x → ws ≡ []
none_take n [] x e = refl
none_take n (w ∷ ws) x e = absurd cc

same_takes : (n : ℕ) (wanted line : List ℕ) (x : Unit {0}) → same_line n wanted line ≡ Ok x → line ≡ wanted
same_takes n wanted line x e = same_text line wanted (sym (cond_ok (bytes_eq line wanted) tt x _ e).0)

-- ---- lines

pub arguments_take : (n : ℕ) (line : List ℕ) (vs : List Value) → arguments n line ≡ Ok vs → (line ≡ codes "args" ++ values_text vs) × AllByRecursion Fits vs
unfolding arguments
arguments_take n line vs e =
    let a = bind_ok (behind n (codes "args") (words_of line)) (values_in n) vs e in
    let v = values_take n a.0 vs a.2 in
    let words : words_of line ≡ codes "args" ∷ map value_text vs = behind_takes n (codes "args") (words_of line) a.0 a.1 ∙ ap (λ (ws : List (List ℕ)). codes "args" ∷ ws) v.0 in
    (sym (pieces_join 32 line) ∙ ap (join_with_byte 32) words ∙ joined (codes "args") vs, v.1)

pub count_takes : (n : ℕ) (line : List ℕ) (k : ℕ) → count n line ≡ Ok k → (line ≡ codes "events " ++ decimal k) × (k ≤ 100000)
unfolding count
count_takes n line k e =
    let a = bind_ok (behind n (codes "events") (words_of line)) _ k e in
    let w = bind_ok (one_word n a.0) _ k a.2 in
    let t = bind_ok (in_place n (natural_of (2 ^ 127 - 1) w.0.0)) _ k w.2 in
    let m = bind_ok (up_to_most n t.0) _ k t.2 in
    let z = bind_ok (no_more n w.0.1) _ k m.2 in
    let is : t.0 ≡ k = ok_is t.0 k z.2 in
    let g = cond_ok (leb t.0 100000) t.0 m.0 _ m.1 in
    let number = natural_of_takes (2 ^ 127 - 1) w.0.0 t.0 (omega arith) (in_place_ok n (natural_of (2 ^ 127 - 1) w.0.0) t.0 t.1) in
    let words : words_of line ≡ codes "events" ∷ w.0.0 ∷ [] = behind_takes n (codes "events") (words_of line) a.0 a.1 ∙ ap (λ (ws : List (List ℕ)). codes "events" ∷ ws) (one_takes n a.0 w.0 w.1 ∙ ap (λ (ws : List (List ℕ)). w.0.0 ∷ ws) (none_take n w.0.1 z.0 z.1)) in
    (sym (pieces_join 32 line) ∙ ap (join_with_byte 32) words ∙ ap (λ (t : List ℕ). codes "events " ++ t) (number.0 ∙ ap decimal is), subst (λ (j : ℕ). j ≤ 100000) is (leb-true t.0 100000 g.0))

pub event_takes : (n : ℕ) (line : List ℕ) (x : Event) → event n line ≡ Ok x → (event_text x ≡ line ++ codes "\n") × IsEvent x
unfolding event
event_takes n line x e =
    let a = bind_ok (behind n (codes "s") (words_of line)) _ x e in
    let w = bind_ok (one_word n a.0) _ x a.2 in
    let t = bind_ok (in_place n (natural_of (2 ^ 32 - 1) w.0.0)) _ x w.2 in
    let c = bind_ok (values_in n w.0.1) _ x t.2 in
    let number = natural_of_takes (2 ^ 32 - 1) w.0.0 t.0 (omega arith) (in_place_ok n (natural_of (2 ^ 32 - 1) w.0.0) t.0 t.1) in
    let v = values_take n w.0.1 c.0 c.1 in
    let small = number.1 in
    let words : words_of line ≡ codes "s" ∷ (decimal t.0 ∷ map value_text c.0) = behind_takes n (codes "s") (words_of line) a.0 a.1 ∙ ap (λ (ws : List (List ℕ)). codes "s" ∷ ws) (one_takes n a.0 w.0 w.1 ∙ both_same w.0.0 (decimal t.0) w.0.1 (map value_text c.0) number.0 v.0) in
    let text : line ≡ codes "s " ++ (decimal t.0 ++ values_text c.0) = sym (pieces_join 32 line) ∙ ap (join_with_byte 32) words ∙ ap (λ (t : List ℕ). codes "s " ++ t) (joined (decimal t.0) c.0) in
    subst (λ (y : Event). (event_text y ≡ line ++ codes "\n") × IsEvent y) (ok_is (record { thread = t.0; choices = c.0 }) x c.2)
    (sym (ap (λ (t : List ℕ). t ++ codes "\n") text ∙ regrouped (decimal t.0) (values_text c.0)), record { thread = omega arith; choices = All-from_recursion Fits c.0 v.1 })
  where
    regrouped : (t vs : List ℕ) → (codes "s " ++ (t ++ vs)) ++ codes "\n" ≡ codes "s " ++ (t ++ (vs ++ codes "\n"))
    regrouped t vs = simp append_assoc

-- ---- lines in their places

whole_takes : (n : ℕ) (lines : List (List ℕ)) (x : List ℕ × List (List ℕ)) → whole_line n lines ≡ Ok x → join_with_byte 10 lines ≡ x.0 ++ 10 ∷ join_with_byte 10 x.1
whole_takes n [] x e = absurd cc
whole_takes n (cut ∷ []) x e = absurd cc
whole_takes n (line ∷ next ∷ more) x e = ap (λ (y : List ℕ × List (List ℕ)). y.0 ++ 10 ∷ join_with_byte 10 y.1) (ok_is (line, next ∷ more) x e)

-- the line that was read, with the lines behind it
pub line_takes : {A : Type 0} (n : ℕ) (form : List ℕ → Reads A) (lines : List (List ℕ)) (x : A × List (List ℕ)) → line_at n form lines ≡ Ok x → (line : List ℕ) × (form line ≡ Ok x.0) × (join_with_byte 10 lines ≡ line ++ 10 ∷ join_with_byte 10 x.1)
line_takes n form lines x e =
    let l = bind_ok (whole_line n lines) (λ l. form l.0 >>= λ y. Ok (y, l.1)) x e in
    let f = bind_ok (form l.0.0) (λ y. Ok (y, l.0.1)) x l.2 in
    let is = ok_is (f.0, l.0.1) x f.2 in
    (l.0.0, f.1 ∙ ap (λ (y : _ × List (List ℕ)). Ok y.0) is, whole_takes n lines l.0 l.1 ∙ ap (λ (y : _ × List (List ℕ)). l.0.0 ++ 10 ∷ join_with_byte 10 y.1) is)

pub events_take : (n k : ℕ) (lines : List (List ℕ)) (x : List Event × List (List ℕ)) → events_at n k lines ≡ Ok x → (join_with_byte 10 lines ≡ flat_map event_text x.0 ++ join_with_byte 10 x.1) × (length x.0 ≡ k) × AllByRecursion IsEvent x.0
unfolding events_at
events_take n zero lines x e = subst (λ (y : List Event × List (List ℕ)). (join_with_byte 10 lines ≡ flat_map event_text y.0 ++ join_with_byte 10 y.1) × (length y.0 ≡ 0) × AllByRecursion IsEvent y.0) (ok_is ([], lines) x e) (refl, refl, tt)
events_take n (suc k) lines x e =
    let a = bind_ok (line_at n (event n) lines) (λ first. events_at (n + 1) k first.1 >>= λ others. Ok (first.0 ∷ others.0, others.1)) x e in
    let b = bind_ok (events_at (n + 1) k a.0.1) (λ others. Ok (a.0.0 ∷ others.0, others.1)) x a.2 in
    let l = line_takes n (event n) lines a.0 a.1 in
    let first = event_takes n l.0 a.0.0 l.1 in
    let more = events_take (n + 1) k a.0.1 b.0 b.1 in
    subst (λ (y : List Event × List (List ℕ)). (join_with_byte 10 lines ≡ flat_map event_text y.0 ++ join_with_byte 10 y.1) × (length y.0 ≡ suc k) × AllByRecursion IsEvent y.0) (ok_is (a.0.0 ∷ b.0.0, b.0.1) x b.2)
    (l.2 ∙ one_joined l.0 (event_text a.0.0) (join_with_byte 10 a.0.1) (flat_map event_text b.0.0) (join_with_byte 10 b.0.1) first.0 more.0, ap suc more.1, (first.1, more.2))
  where
    one_joined : (line text after events rest : List ℕ) → text ≡ line ++ codes "\n" → after ≡ events ++ rest → line ++ 10 ∷ after ≡ (text ++ events) ++ rest
    one_joined line text after events rest e f = rw (e, f) (simp append_assoc)

nothing_takes : (n : ℕ) (lines : List (List ℕ)) (x : Unit {0}) → nothing_at n lines ≡ Ok x → join_with_byte 10 lines ≡ []
nothing_takes n [] x e = refl
nothing_takes n (line ∷ []) x e = nil_from_length line (eqb-true (length line) 0 (cond_ok (eqb (length line) 0) tt x _ e).0)
nothing_takes n (line ∷ next ∷ more) x e = absurd cc

-- ---- the whole text

all_joined : (text first values t2 number t3 events t4 end t5 : List ℕ) → text ≡ first ++ 10 ∷ t2 → first ≡ codes "vcc-schedule 1" → t2 ≡ (codes "args" ++ values) ++ 10 ∷ t3 → t3 ≡ (codes "events " ++ number) ++ 10 ∷ t4 → t4 ≡ events ++ (end ++ 10 ∷ t5) → end ≡ codes "end" → t5 ≡ []
    → text ≡ codes "vcc-schedule 1\nargs" ++ (values ++ (codes "\nevents " ++ (number ++ (codes "\n" ++ (events ++ codes "end\n")))))
all_joined text first values t2 number t3 events t4 end t5 e1 e2 e3 e4 e5 e6 e7 = rw (e1, e2, e3, e4, e5, e6, e7) refl

pub text_takes : (text : List ℕ) (s : Schedule) → schedule_of text ≡ Ok s → IsScheduleText text s
unfolding schedule_of
text_takes text s e =
    let a = bind_ok (line_at 1 (title 1) (lines_of text)) _ s e in
    let b = bind_ok (line_at 2 (arguments 2) a.0.1) _ s a.2 in
    let c = bind_ok (line_at 3 (count 3) b.0.1) _ s b.2 in
    let d = bind_ok (events_at 4 c.0.0 c.0.1) _ s c.2 in
    let f = bind_ok (line_at (4 + c.0.0) (last (4 + c.0.0)) d.0.1) _ s d.2 in
    let g = bind_ok (nothing_at (5 + c.0.0) f.0.1) _ s f.2 in
    let l1 = line_takes 1 (title 1) (lines_of text) a.0 a.1 in
    let l2 = line_takes 2 (arguments 2) a.0.1 b.0 b.1 in
    let l3 = line_takes 3 (count 3) b.0.1 c.0 c.1 in
    let l4 = events_take 4 c.0.0 c.0.1 d.0 d.1 in
    let l5 = line_takes (4 + c.0.0) (last (4 + c.0.0)) d.0.1 f.0 f.1 in
    let values = arguments_take 2 l2.0 b.0.0 l2.1 in
    let number = count_takes 3 l3.0 c.0.0 l3.1 in
    let whole : text ≡ text_of (record { arguments = b.0.0; events = d.0.0 }) =
    all_joined text l1.0 (values_text b.0.0) (join_with_byte 10 a.0.1) (decimal (length d.0.0)) (join_with_byte 10 b.0.1) (flat_map event_text d.0.0) (join_with_byte 10 c.0.1) l5.0 (join_with_byte 10 f.0.1)
    (sym (pieces_join 10 text) ∙ l1.2) (same_takes 1 (codes "vcc-schedule 1") l1.0 a.0.0 l1.1)
    (l2.2 ∙ ap (λ (t : List ℕ). t ++ 10 ∷ join_with_byte 10 b.0.1) values.0)
    (l3.2 ∙ ap (λ (t : List ℕ). t ++ 10 ∷ join_with_byte 10 c.0.1) (number.0 ∙ ap (λ (k : ℕ). codes "events " ++ decimal k) (sym l4.1)))
    (l4.0 ∙ ap (λ (t : List ℕ). flat_map event_text d.0.0 ++ t) l5.2)
    (same_takes (4 + c.0.0) (codes "end") l5.0 f.0.0 l5.1) (nothing_takes (5 + c.0.0) f.0.1 g.0 g.1) in
    let few = number.1 in
    let long = l4.1 in
    subst (IsScheduleText text) (ok_is (record { arguments = b.0.0; events = d.0.0 }) s g.2)
    (record { spelled = whole; arguments = All-from_recursion Fits b.0.0 values.1; events = All-from_recursion IsEvent d.0.0 l4.2; few = omega (arith, few, long) })
