-- Worked rows: ghosts, atomic blocks and Interlocked calls. Each is a text with the number of its first broken rule, which stands at the first word of the second part, or one that breaks none.
use Rattle.std.specs.Prelude.{Bool, true, List, [], ◌∷◌}
use Rattle.std.specs.List.{list_all}
use Rattle.std.proofs.Common.{◌≡◌, refl}
use Rattle.ebnf.specs.Sets.{first, first_rule, low, low_rule, is_empty}
use Rattle.ebnf.specs.Reading.{read, links, climbs, read_rule, reads}
use Rattle.typing_spec.specs.Reading.{breaks, types}

-- rules 7 and 8: ghosts
abbrev ghosts : List Bool
ghosts =
    breaks 7 "void main ( ) { _( ghost int z )" "z = 1 ; }" ∷
    breaks 7 "void main ( ) { _( ghost int z ) int x =" "z ; }" ∷
    types "void main ( ) { _( ghost int z ) int x = 1 ; _( ghost z = x ; ) }" ∷
    breaks 7 "void main ( _( ghost int z ) ) { if (" "z ) ; }" ∷
    breaks 7 "void main ( _( ghost int z ) ) { while (" "z ) ; }" ∷
    breaks 7 "void main ( _( ghost int z ) ) { do ; while (" "z ) ; }" ∷
    breaks 7 "void main ( ) { } int f ( _( ghost int z ) ) { return" "z ; }" ∷
    breaks 7 "void main ( _( ghost int z ) ) { f (" "z ) ; } void f ( int x ) { }" ∷
    breaks 7 "void main ( _( ghost int z ) ) { vcc_spawn ( f ," "z ) ; } void f ( int x ) { }" ∷
    types "void main ( _( ghost int z ) ) { _( ghost if ( z ) z = 1 ; ) }" ∷
    breaks 7 "struct A { int v ; _( ghost int g ; ) } ; void main ( struct A * p ) { int x = p ->" "g ; }" ∷
    breaks 7 "struct A { int v ; _( ghost int g ; ) } ; void main ( struct A * p ) { p ->" "g = 1 ; }" ∷
    types "struct A { int v ; _( ghost int g ; ) } ; void main ( struct A * p ) { _( ghost p -> g = p -> v ; ) _( assert p -> g == 1 ) }" ∷
    types "struct A { int v ; struct A * n ; } ; void main ( _( ghost struct A * q ) ) { _( wrap q ) _( unwrap q ) _( unwrapping q ) { } _( atomic q ) { } f ( _( ghost q ) ) ; } void f ( _( ghost struct A * q ) ) { }" ∷
    breaks 7 "struct A { int v ; struct A * n ; } ; void main ( _( ghost struct A * q ) ) { free (" "q ) ; }" ∷
    breaks 8 "void main ( ) { int x ; _( ghost" "x = 1 ; ) }" ∷
    breaks 8 "struct A { int v ; _( ghost int g ; ) } ; void main ( struct A * p ) { _( ghost if ( 1 ) p ->" "v = 1 ; ) }" ∷
    types "struct A { int v ; _( ghost int g ; ) } ; void main ( struct A * p ) { _( ghost if ( 1 ) p -> g = 1 ; ) }" ∷
    []

ghosts_hold : list_all (λ b. b) ghosts ≡ true
unfolding reads read links climbs read_rule first first_rule low low_rule is_empty
ghosts_hold = refl

-- rule 9: what stands in atomic blocks
abbrev atomic_statements : List Bool
atomic_statements =
    breaks 9 "struct B { volatile int v ; volatile int w ; int x ; volatile struct B * n ; } ; void main ( struct B * p , struct B * q , int x ) { _( atomic p , q ) {" "int y ; } } int f ( ) { return 1 ; } void g ( ) { }" ∷
    breaks 9 "struct B { volatile int v ; volatile int w ; int x ; volatile struct B * n ; } ; void main ( struct B * p , struct B * q , int x ) { _( atomic p , q ) {" "g ( ) ; } } int f ( ) { return 1 ; } void g ( ) { }" ∷
    breaks 9 "struct B { volatile int v ; volatile int w ; int x ; volatile struct B * n ; } ; void main ( struct B * p , struct B * q , int x ) { _( atomic p , q ) {" "x = f ( ) ; } } int f ( ) { return 1 ; } void g ( ) { }" ∷
    breaks 9 "struct B { volatile int v ; volatile int w ; int x ; volatile struct B * n ; } ; void main ( struct B * p , struct B * q , int x ) { _( atomic p , q ) {" "p = malloc ( sizeof ( struct B ) ) ; } } int f ( ) { return 1 ; } void g ( ) { }" ∷
    breaks 9 "struct B { volatile int v ; volatile int w ; int x ; volatile struct B * n ; } ; void main ( struct B * p , struct B * q , int x ) { _( atomic p , q ) {" "free ( p ) ; } } int f ( ) { return 1 ; } void g ( ) { }" ∷
    breaks 9 "struct B { volatile int v ; volatile int w ; int x ; volatile struct B * n ; } ; void main ( struct B * p , struct B * q , int x ) { _( atomic p , q ) {" "vcc_spawn ( g ) ; } } int f ( ) { return 1 ; } void g ( ) { }" ∷
    breaks 9 "struct B { volatile int v ; volatile int w ; int x ; volatile struct B * n ; } ; void main ( struct B * p , struct B * q , int x ) { _( atomic p , q ) {" "while ( 1 ) ; } } int f ( ) { return 1 ; } void g ( ) { }" ∷
    breaks 9 "struct B { volatile int v ; volatile int w ; int x ; volatile struct B * n ; } ; void main ( struct B * p , struct B * q , int x ) { _( atomic p , q ) {" "do ; while ( 1 ) ; } } int f ( ) { return 1 ; } void g ( ) { }" ∷
    breaks 9 "struct B { volatile int v ; volatile int w ; int x ; volatile struct B * n ; } ; void main ( struct B * p , struct B * q , int x ) { _( atomic p , q ) {" "for ( ; 1 ; ) ; } } int f ( ) { return 1 ; } void g ( ) { }" ∷
    breaks 9 "struct B { volatile int v ; volatile int w ; int x ; volatile struct B * n ; } ; void main ( struct B * p , struct B * q , int x ) { _( atomic p , q ) {" "if ( 1 ) ; } } int f ( ) { return 1 ; } void g ( ) { }" ∷
    breaks 9 "struct B { volatile int v ; volatile int w ; int x ; volatile struct B * n ; } ; void main ( struct B * p , struct B * q , int x ) { _( atomic p , q ) {" "if ( 1 ) ; else ; } } int f ( ) { return 1 ; } void g ( ) { }" ∷
    breaks 9 "struct B { volatile int v ; volatile int w ; int x ; volatile struct B * n ; } ; void main ( struct B * p , struct B * q , int x ) { _( atomic p , q ) { _( ghost if ( 1 )" "int y ; ) } } int f ( ) { return 1 ; } void g ( ) { }" ∷
    breaks 9 "struct B { volatile int v ; volatile int w ; int x ; volatile struct B * n ; } ; void main ( struct B * p , struct B * q , int x ) { _( atomic p , q ) {" "return ; } } int f ( ) { return 1 ; } void g ( ) { }" ∷
    breaks 9 "struct B { volatile int v ; volatile int w ; int x ; volatile struct B * n ; } ; void main ( struct B * p , struct B * q , int x ) { _( atomic p , q ) {" "_( assert 1 ) } } int f ( ) { return 1 ; } void g ( ) { }" ∷
    breaks 9 "struct B { volatile int v ; volatile int w ; int x ; volatile struct B * n ; } ; void main ( struct B * p , struct B * q , int x ) { _( atomic p , q ) {" "_( wrap p ) } } int f ( ) { return 1 ; } void g ( ) { }" ∷
    breaks 9 "struct B { volatile int v ; volatile int w ; int x ; volatile struct B * n ; } ; void main ( struct B * p , struct B * q , int x ) { _( atomic p , q ) {" "_( unwrap p ) } } int f ( ) { return 1 ; } void g ( ) { }" ∷
    breaks 9 "struct B { volatile int v ; volatile int w ; int x ; volatile struct B * n ; } ; void main ( struct B * p , struct B * q , int x ) { _( atomic p , q ) {" "_( unwrapping p ) { } } } int f ( ) { return 1 ; } void g ( ) { }" ∷
    breaks 9 "struct B { volatile int v ; volatile int w ; int x ; volatile struct B * n ; } ; void main ( struct B * p , struct B * q , int x ) { _( atomic p , q ) {" "_( atomic p ) { } } } int f ( ) { return 1 ; } void g ( ) { }" ∷
    breaks 9 "struct B { volatile int v ; volatile int w ; int x ; volatile struct B * n ; } ; void main ( struct B * p , struct B * q , int x ) { _( atomic p , q ) { _( ghost" "int y ; ) } } int f ( ) { return 1 ; } void g ( ) { }" ∷
    breaks 9 "struct B { volatile int v ; volatile int w ; int x ; volatile struct B * n ; } ; void main ( struct B * p , struct B * q , int x ) { _( atomic p , q ) { _( ghost" "_( wrap p ) ) } } int f ( ) { return 1 ; } void g ( ) { }" ∷
    breaks 9 "struct B { volatile int v ; volatile int w ; int x ; volatile struct B * n ; } ; void main ( struct B * p , struct B * q , int x ) { _( atomic p , q ) { {" "int y ; } } } int f ( ) { return 1 ; } void g ( ) { }" ∷
    types "struct B { volatile int v ; volatile int w ; int x ; volatile struct B * n ; } ; void main ( struct B * p , struct B * q , int x ) { _( atomic p , q ) { { x = 1 ; ; } _( ghost if ( x ) { } ) } } int f ( ) { return 1 ; } void g ( ) { }" ∷
    []

atomic_statements_hold : list_all (λ b. b) atomic_statements ≡ true
unfolding reads read links climbs read_rule first first_rule low low_rule is_empty
atomic_statements_hold = refl

-- rule 10: accesses of volatile fields
abbrev accesses : List Bool
accesses =
    breaks 10 "struct B { volatile int v ; volatile int w ; int x ; volatile struct B * n ; } ; void main ( struct B * p , struct B * q , int x ) { _( atomic p , q ) { p -> v = q ->" "w ; } } int f ( ) { return 1 ; } void g ( ) { }" ∷
    breaks 10 "struct B { volatile int v ; volatile int w ; int x ; volatile struct B * n ; } ; void main ( struct B * p , struct B * q , int x ) { _( atomic p , q ) { p ->" "v ++ ; } } int f ( ) { return 1 ; } void g ( ) { }" ∷
    breaks 10 "struct B { volatile int v ; volatile int w ; int x ; volatile struct B * n ; } ; void main ( struct B * p , struct B * q , int x ) { _( atomic p , q ) { p ->" "v += 1 ; } } int f ( ) { return 1 ; } void g ( ) { }" ∷
    breaks 10 "struct B { volatile int v ; volatile int w ; int x ; volatile struct B * n ; } ; void main ( struct B * p , struct B * q , int x ) { _( atomic p , q ) { p -> v = 1 ; q ->" "v = 1 ; } } int f ( ) { return 1 ; } void g ( ) { }" ∷
    breaks 10 "struct B { volatile int v ; volatile int w ; int x ; volatile struct B * n ; } ; void main ( struct B * p , struct B * q , int x ) { _( atomic p , q ) { x = p -> n ->" "v ; } } int f ( ) { return 1 ; } void g ( ) { }" ∷
    breaks 10 "struct B { volatile int v ; volatile int w ; int x ; volatile struct B * n ; } ; void main ( struct B * p , struct B * q , int x ) { _( atomic p , q ) { p ->" "n -> x ++ ; } } int f ( ) { return 1 ; } void g ( ) { }" ∷
    types "struct B { volatile int v ; volatile int w ; int x ; volatile struct B * n ; } ; void main ( struct B * p , struct B * q , int x ) { _( atomic p , q ) { p -> n -> x = 1 ; } } int f ( ) { return 1 ; } void g ( ) { }" ∷
    breaks 10 "struct B { volatile int v ; volatile int w ; int x ; volatile struct B * n ; } ; void main ( struct B * p , struct B * q , int x ) { _( atomic p , q ) { x = InterlockedExchange ( & p -> v , q ->" "w ) ; } } int f ( ) { return 1 ; } void g ( ) { }" ∷
    types "struct B { volatile int v ; volatile int w ; int x ; volatile struct B * n ; } ; void main ( struct B * p , struct B * q , int x ) { _( atomic p , q ) { p -> v = q -> x ; } } int f ( ) { return 1 ; } void g ( ) { }" ∷
    types "struct B { volatile int v ; volatile int w ; int x ; volatile struct B * n ; } ; void main ( struct B * p , struct B * q , int x ) { _( atomic p , q ) { p -> x = q -> v ; } } int f ( ) { return 1 ; } void g ( ) { }" ∷
    types "struct B { volatile int v ; volatile int w ; int x ; volatile struct B * n ; } ; void main ( struct B * p , struct B * q , int x ) { _( atomic p , q ) { p -> x ++ ; } } int f ( ) { return 1 ; } void g ( ) { }" ∷
    types "struct B { volatile int v ; volatile int w ; int x ; volatile struct B * n ; } ; void main ( struct B * p , struct B * q , int x ) { _( atomic p , q ) { x = InterlockedIncrement ( & p -> v ) ; } } int f ( ) { return 1 ; } void g ( ) { }" ∷
    types "struct B { volatile int v ; volatile int w ; int x ; volatile struct B * n ; } ; void main ( struct B * p , int x ) { _( ghost int z ; ) _( atomic p -> n , p -> n ) { x = p -> v ; _( ghost z = p -> v ; ) } }" ∷
    types "struct B { volatile int v ; volatile int w ; int x ; volatile struct B * n ; } ; void main ( struct B * p ) { p -> v = p -> w ; }" ∷
    []

accesses_hold : list_all (λ b. b) accesses ≡ true
unfolding reads read links climbs read_rule first first_rule low low_rule is_empty
accesses_hold = refl

-- rule 11: Interlocked calls
abbrev interlocked : List Bool
interlocked =
    breaks 11 "struct B { volatile int v ; volatile int w ; int x ; volatile struct B * n ; } ; void main ( struct B * p , int x ) { x =" "InterlockedIncrement ( & p -> v ) ; }" ∷
    breaks 11 "struct B { volatile int v ; volatile int w ; int x ; volatile struct B * n ; } ; void main ( struct B * p , struct B * q , int x ) { _( atomic p , q ) { x =" "InterlockedIncrement ( & p -> x ) ; } } int f ( ) { return 1 ; } void g ( ) { }" ∷
    breaks 11 "struct B { volatile int v ; volatile int w ; int x ; volatile struct B * n ; } ; void main ( struct B * p , struct B * q , int x ) { _( atomic p , q ) { q =" "InterlockedExchange ( & p -> n , q ) ; } } int f ( ) { return 1 ; } void g ( ) { }" ∷
    breaks 11 "struct B { volatile int v ; volatile int w ; int x ; volatile struct B * n ; } ; void main ( struct B * p , struct B * q , int x ) { _( atomic p , q ) { x =" "InterlockedCompareExchange ( & p -> v , 1 ) ; } } int f ( ) { return 1 ; } void g ( ) { }" ∷
    types "struct B { volatile int v ; volatile int w ; int x ; volatile struct B * n ; } ; void main ( struct B * p , struct B * q , int x ) { _( atomic p , q ) { x = InterlockedCompareExchange ( & p -> v , 1 , 0 ) ; } } int f ( ) { return 1 ; } void g ( ) { }" ∷
    breaks 11 "struct B { volatile int v ; volatile int w ; int x ; volatile struct B * n ; } ; void main ( struct B * p , struct B * q , int x ) { _( atomic p , q ) { x =" "InterlockedExchange ( & p -> v ) ; } } int f ( ) { return 1 ; } void g ( ) { }" ∷
    types "struct B { volatile int v ; volatile int w ; int x ; volatile struct B * n ; } ; void main ( struct B * p , struct B * q , int x ) { _( atomic p , q ) { x = InterlockedExchange ( & p -> v , 1 ) ; } } int f ( ) { return 1 ; } void g ( ) { }" ∷
    breaks 11 "struct B { volatile int v ; volatile int w ; int x ; volatile struct B * n ; } ; void main ( struct B * p , struct B * q , int x ) { _( atomic p , q ) { x =" "InterlockedIncrement ( & p -> v , 1 ) ; } } int f ( ) { return 1 ; } void g ( ) { }" ∷
    types "struct B { volatile int v ; volatile int w ; int x ; volatile struct B * n ; } ; void main ( struct B * p , struct B * q , int x ) { _( atomic p , q ) { x = InterlockedDecrement ( & p -> v ) ; } } int f ( ) { return 1 ; } void g ( ) { }" ∷
    []

interlocked_hold : list_all (λ b. b) interlocked ≡ true
unfolding reads read links climbs read_rule first first_rule low low_rule is_empty
interlocked_hold = refl
