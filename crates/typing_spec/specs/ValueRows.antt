-- Worked rows: operands, values, arguments and arrows. Each is a text with the number of its first broken rule, which stands at the first word of the second part, or one that breaks none.
use Rattle.std.specs.Prelude.{Bool, true, List, [], ◌∷◌}
use Rattle.std.specs.List.{list_all}
use Rattle.std.proofs.Common.{◌≡◌, refl}
use Rattle.ebnf.specs.Sets.{first, first_rule, low, low_rule, is_empty}
use Rattle.ebnf.specs.Reading.{read, links, climbs, read_rule, reads}
use Rattle.typing_spec.specs.Reading.{breaks, types}

-- rule 3: operands that don't fit
abbrev operands : List Bool
operands =
    breaks 3 "struct A { int v ; struct A * n ; } ; void main ( struct A * p ) { p = p" "+ 1 ; }" ∷
    types "void main ( int p ) { p = p + 1 ; }" ∷
    breaks 3 "struct A { int v ; struct A * n ; } ; void main ( struct A * p ) { p = p" "+ y ; }" ∷
    breaks 3 "struct A { int v ; struct A * n ; } ; void main ( struct A * p ) { p" "+= 1 ; }" ∷
    breaks 3 "struct A { int v ; struct A * n ; } ; void main ( struct A * p , int x ) { x" "-= p ; }" ∷
    breaks 3 "struct A { int v ; struct A * n ; } ; void main ( struct A * p , int x ) { x = 1" "* p ; }" ∷
    breaks 3 "struct A { int v ; struct A * n ; } ; void main ( struct A * p ) { p" "++ ; }" ∷
    types "void main ( int p ) { p += 1 ; p -- ; }" ∷
    breaks 3 "struct A { int v ; struct A * n ; } ; void main ( struct A * p ) { int x =" "- p ; }" ∷
    types "struct A { int v ; struct A * n ; } ; void main ( struct A * p ) { int x = ! p ; }" ∷
    breaks 3 "struct A { int v ; struct A * n ; } ; void main ( struct A * p ) { if ( 1" "< p ) ; }" ∷
    breaks 3 "struct A { int v ; struct A * n ; } ; void main ( struct A * p ) { if ( p" "== 1 ) ; }" ∷
    types "struct A { int v ; struct A * n ; } ; void main ( struct A * p ) { if ( p == NULL && p ) ; }" ∷
    breaks 3 "struct A { int v ; struct A * n ; } ; void main ( struct A * p ) { p = 1" "? p : 1 ; }" ∷
    types "struct A { int v ; struct A * n ; } ; void main ( struct A * p ) { p = 1 ? p : NULL ; }" ∷
    types "struct A { int v ; struct A * n ; } ; void main ( struct A * p ) { _( ghost \\object o ; ) _( ghost o = 1 ? p : o ; ) }" ∷
    breaks 3 "struct A { int v ; struct A * n ; } ; struct B { int v ; } ; void main ( struct A * p , struct B * q ) { if ( 1" "? p : q ) ; }" ∷
    breaks 3 "struct A { int v ; struct A * n ; } ; void main ( struct A * p ) { _( assert 1" "\\in p -> \\owns ) }" ∷
    types "struct A { int v ; struct A * n ; } ; void main ( struct A * p ) { _( assert NULL \\in p -> \\owns ) }" ∷
    types "void main ( ) { _( assert \\true + 1 == 2 ) }" ∷
    breaks 3 "struct A { volatile int v ; } ; void main ( struct A * p , int x ) { _( atomic p ) { x = InterlockedIncrement ( & p -> v )" "== p ; } }" ∷
    breaks 3 "struct A { volatile int v ; } ; void main ( struct A * p , struct A * q ) { _( atomic p ) { q = InterlockedExchange ( & p -> v , 1 )" "== q ; } }" ∷
    breaks 1 "struct A { volatile int v ; } ; void main ( struct A * p , struct A * q ) { _( atomic p ) { q = InterlockedExchange ( & p -> v , 1 ) !=" "nosuch ; } }" ∷
    types "struct A { volatile int v ; } ; void main ( struct A * p , int x ) { _( atomic p ) { x = InterlockedIncrement ( & p -> v ) == 1 ; } }" ∷
    []

operands_hold : list_all (λ b. b) operands ≡ true
unfolding reads read links climbs read_rule first first_rule low low_rule is_empty
operands_hold = refl

-- rule 4: values that don't convert
abbrev converted : List Bool
converted =
    breaks 4 "struct A { int v ; struct A * n ; } ; void main ( struct A * p ) { int x =" "p ; }" ∷
    types "void main ( unsigned p ) { int x = p ; }" ∷
    breaks 4 "struct A { int v ; struct A * n ; } ; void main ( struct A * p ) { p =" "1 ; }" ∷
    types "struct A { int v ; struct A * n ; } ; void main ( struct A * p ) { p = NULL ; }" ∷
    breaks 4 "struct A { int v ; struct A * n ; } ; struct B { int v ; } ; void main ( struct A * p , struct B * q ) { p =" "q ; }" ∷
    breaks 4 "void main ( int x ) { x =" "g ( ) ; } void g ( ) { }" ∷
    types "void main ( int x ) { x = g ( ) ; } int g ( ) { return 1 ; }" ∷
    breaks 4 "struct A { int v ; struct A * n ; } ; struct B { int v ; } ; void main ( struct A * p ) { p = ( struct A * )" "malloc ( sizeof ( struct B ) ) ; }" ∷
    breaks 4 "struct A { int v ; struct A * n ; } ; struct B { int v ; } ; void main ( struct A * p ) { p =" "malloc ( sizeof ( struct B ) ) ; }" ∷
    types "struct A { int v ; struct A * n ; } ; void main ( struct A * p ) { p = malloc ( sizeof ( struct A ) ) ; }" ∷
    breaks 4 "void main ( ) { free (" "1 ) ; }" ∷
    breaks 1 "void main ( ) { free ( !" "y ) ; }" ∷
    types "struct A { int v ; struct A * n ; } ; void main ( struct A * p ) { free ( NULL ) ; free ( p ) ; }" ∷
    breaks 4 "struct A { int v ; struct A * n ; } ; void main ( struct A * p ) { f (" "p ) ; } void f ( int x ) { }" ∷
    breaks 4 "struct A { int v ; struct A * n ; } ; void main ( struct A * p ) { f ( _( ghost" "p ) ) ; } void f ( _( ghost int x ) ) { }" ∷
    types "struct A { int v ; struct A * n ; } ; void main ( struct A * p ) { f ( _( ghost p ) ) ; } void f ( _( ghost \\object x ) ) { }" ∷
    breaks 4 "struct A { int v ; struct A * n ; } ; void main ( ) { } int f ( struct A * p ) { return" "p ; }" ∷
    types "struct A { int v ; struct A * n ; } ; void main ( ) { } struct A * f ( struct A * p ) { return p ; }" ∷
    []

converted_hold : list_all (λ b. b) converted ≡ true
unfolding reads read links climbs read_rule first first_rule low low_rule is_empty
converted_hold = refl

-- rule 4: where references and claims are wanted
abbrev converted_references : List Bool
converted_references =
    breaks 4 "void main ( ) _( writes" "1 ) { }" ∷
    breaks 4 "void main ( ) _( writes \\span (" "1 ) ) { }" ∷
    types "void main ( ) _( writes \\me , NULL ) { }" ∷
    breaks 4 "void main ( ) _( requires \\wrapped (" "1 ) ) { }" ∷
    types "void main ( ) _( requires \\wrapped ( \\me ) ) { }" ∷
    types "struct A { int v ; struct A * n ; } ; void main ( struct A * p ) _( requires \\wrapped ( p -> \\owner ) ) { }" ∷
    breaks 4 "struct A { int v ; _( invariant \\mine (" "v ) ) } ; void main ( ) { }" ∷
    types "struct A { int v ; _( invariant \\mine ( \\this ) ) } ; void main ( ) { }" ∷
    breaks 4 "void main ( _( ghost \\object o ) ) _( requires \\claims_object (" "o , o ) ) { }" ∷
    breaks 4 "void main ( _( ghost \\claim c ) ) _( requires \\claims_object ( c ," "1 ) ) { }" ∷
    types "void main ( _( ghost \\claim c ) ) _( requires \\claims_object ( c , c ) ) { }" ∷
    breaks 4 "void main ( _( ghost \\object o ) ) _( requires \\claims (" "o , 1 ) ) { }" ∷
    breaks 4 "void main ( _( ghost \\object o ) ) { _( ghost \\claim c =" "o ; ) }" ∷
    types "void main ( _( ghost \\claim c ) ) { _( ghost \\object o = c ; ) }" ∷
    breaks 4 "_( dynamic_owns ) struct A { int v ; } ; void main ( struct A * p ) { _( ghost p -> \\owns = {" "1 } ; ) }" ∷
    breaks 4 "_( dynamic_owns ) struct A { int v ; } ; void main ( struct A * p ) { _( ghost p -> \\owns +=" "1 ; ) }" ∷
    types "_( dynamic_owns ) struct A { int v ; } ; void main ( struct A * p ) { _( ghost p -> \\owns -= { NULL , p } ; ) }" ∷
    breaks 4 "void main ( _( ghost \\object o ) ) { _( ghost \\destroy_claim (" "o , { } ) ) }" ∷
    breaks 4 "void main ( _( ghost \\claim c ) ) { _( ghost \\destroy_claim ( c , {" "1 } ) ) }" ∷
    breaks 4 "void main ( _( ghost \\claim c ) ) { _( ghost c = \\make_claim ( {" "1 } , \\true ) ) }" ∷
    breaks 4 "void main ( ) { _( atomic" "1 ) { } }" ∷
    types "void main ( ) { _( atomic NULL ) { } }" ∷
    breaks 4 "struct A { volatile int v ; } ; void main ( struct A * p , int x ) { _( atomic p ) { x = InterlockedExchange ( & p -> v ," "p ) ; } }" ∷
    breaks 4 "struct A { volatile int v ; } ; void main ( struct A * p ) { _( atomic p ) { p =" "InterlockedIncrement ( & p -> v ) ; } }" ∷
    []

converted_references_hold : list_all (λ b. b) converted_references ≡ true
unfolding reads read links climbs read_rule first first_rule low low_rule is_empty
converted_references_hold = refl

-- rule 5: numbers of arguments
abbrev counted : List Bool
counted =
    breaks 5 "void main ( ) {" "f ( 1 ) ; } void f ( ) { }" ∷
    breaks 5 "void main ( ) {" "f ( ) ; } void f ( int x ) { }" ∷
    breaks 5 "void main ( ) {" "f ( 1 _( ghost 1 ) ) ; } void f ( int x ) { }" ∷
    breaks 5 "void main ( ) {" "f ( 1 ) ; } void f ( int x _( ghost int y ) ) { }" ∷
    types "void main ( ) { f ( 1 _( ghost 1 ) ) ; } void f ( int x _( ghost int y ) ) { }" ∷
    breaks 5 "void main ( ) { vcc_spawn (" "f ) ; } void f ( int x ) { }" ∷
    types "void main ( ) { vcc_spawn ( f , 1 ) ; } void f ( int x ) { }" ∷
    breaks 5 "void main ( int x ) { x =" "f ( 1 ) ; } int f ( ) { return 1 ; }" ∷
    []

counted_hold : list_all (λ b. b) counted ≡ true
unfolding reads read links climbs read_rule first first_rule low low_rule is_empty
counted_hold = refl

-- rule 6: arrows
abbrev arrows : List Bool
arrows =
    breaks 6 "void main ( int x ) { x" "-> v = 1 ; }" ∷
    breaks 6 "void main ( ) { NULL" "-> v = 1 ; }" ∷
    breaks 6 "struct A { int v ; struct A * n ; } ; void main ( struct A * p ) { p -> v" "-> v = 1 ; }" ∷
    types "struct A { int v ; struct A * n ; } ; void main ( struct A * p ) { p -> n -> v = 1 ; }" ∷
    breaks 6 "void main ( _( ghost \\object o ) ) { _( assert o" "-> \\closed ) }" ∷
    breaks 6 "void main ( _( ghost \\claim c ) ) { _( assert c" "-> \\closed ) }" ∷
    types "struct A { int v ; struct A * n ; } ; void main ( struct A * p ) { _( assert p -> \\closed ) }" ∷
    breaks 6 "void main ( _( ghost \\object o ) ) { _( assert NULL \\in o" "-> \\owns ) }" ∷
    breaks 6 "void main ( _( ghost \\object o ) ) { _( ghost o" "-> \\owns = { } ; ) }" ∷
    breaks 1 "void main ( ) {" "y -> v = 1 ; }" ∷
    []

arrows_hold : list_all (λ b. b) arrows ≡ true
unfolding reads read links climbs read_rule first first_rule low low_rule is_empty
arrows_hold = refl
