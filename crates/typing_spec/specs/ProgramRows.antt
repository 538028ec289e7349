-- Worked rows: functions, structs and whole programs. Each is a text with the number of its first broken rule, which stands at the first word of the second part, or one that breaks none.
use Rattle.std.specs.Prelude.{ℕ, Bool, true, not, List, [], ◌∷◌}
use Rattle.std.specs.List.{list_all}
use Rattle.std.proofs.Common.{◌≡◌, refl}
use Rattle.ebnf.specs.Sets.{first, first_rule, low, low_rule, is_empty}
use Rattle.ebnf.specs.Reading.{read, links, climbs, read_rule, reads}
use Rattle.typing_spec.specs.Rules as r
use Rattle.typing_spec.specs.Rules.{Rule}
use Rattle.typing_spec.specs.First.{Fault, not_later}
use Rattle.typing_spec.specs.Reading.{breaks, types}

-- rules 21 to 24: returns, spawned functions, structs and `main`
abbrev returns : List Bool
returns =
    breaks 21 "int f ( ) { if ( 1 )" "return ; return 1 ; } void main ( ) { }" ∷
    types "int f ( ) { if ( 1 ) return 2 ; return 1 ; } void main ( ) { }" ∷
    breaks 21 "int f ( ) { { return 1 ; }" "} void main ( ) { }" ∷
    breaks 21 "int f ( ) { if ( 1 ) return 1 ; else return 2 ;" "} void main ( ) { }" ∷
    breaks 21 "int f ( ) {" "} void main ( ) { }" ∷
    breaks 21 "int f ( ) {" "return ; } void main ( ) { }" ∷
    breaks 21 "int f ( ) { return 1 ; ;" "} void main ( ) { }" ∷
    breaks 21 "void main ( ) {" "return 1 ; }" ∷
    types "void main ( ) { return ; }" ∷
    types "void main ( ) { if ( 1 ) return ; }" ∷
    breaks 21 "struct A { int v ; struct A * n ; } ; void main ( struct A * p ) { _( unwrapping p ) { {" "return ; } } }" ∷
    types "struct A { int v ; struct A * n ; } ; void main ( struct A * p ) { _( unwrapping p ) { } return ; }" ∷
    breaks 22 "void main ( ) { vcc_spawn (" "f ) ; } int f ( ) { return 1 ; }" ∷
    types "void main ( ) { vcc_spawn ( f ) ; } void f ( ) { }" ∷
    breaks 23 "_( dynamic_owns , volatile_owns ) struct" "A { int v ; } ; void main ( ) { }" ∷
    breaks 23 "_( dynamic_owns ) _( volatile_owns ) struct" "A { int v ; } ; void main ( ) { }" ∷
    types "_( claimable , volatile_owns ) struct A { int v ; } ; void main ( ) { }" ∷
    breaks 23 "struct" "A { } ; void main ( ) { }" ∷
    breaks 23 "struct" "A { _( invariant 1 ) } ; void main ( ) { }" ∷
    types "struct A { _( ghost int v ; ) } ; void main ( ) { }" ∷
    breaks 24 "void f ( ) { }" "" ∷
    types "void f ( ) { } void main ( ) { }" ∷
    breaks 24 "" "" ∷
    []

returns_hold : list_all (λ b. b) returns ≡ true
unfolding reads read links climbs read_rule first first_rule low low_rule is_empty
returns_hold = refl

-- the first in the text, and at one place the smallest
abbrev order : List Bool
order =
    breaks 3 "struct A { int v ; struct A * n ; } ; void main ( struct A * p ) { p = p" "+ 1 ; y = 1 ; }" ∷
    breaks 1 "struct A { int v ; struct A * n ; } ; void main ( struct A * p ) {" "y = 1 ; p = p + 1 ; }" ∷
    breaks 1 "void f ( ) {" "y = 1 ; }" ∷
    breaks 23 "void f ( struct A * p ) { } struct" "A { } ;" ∷
    breaks 24 "void f ( struct A * p ) { } struct A { int v ; } ;" "" ∷
    breaks 15 "struct A { int v ; struct A * n ; _( ghost \\claim c ; ) _( invariant" "\\result == 1 ) } ; void main ( ) { }" ∷
    breaks 9 "struct B { volatile int v ; volatile int w ; int x ; volatile struct B * n ; } ; void main ( struct B * p , struct B * q , int x ) { _( atomic p , q ) {" "return 1 ; } } int f ( ) { return 1 ; } void g ( ) { }" ∷
    breaks 4 "void main ( int x ) { x =" "g ( 1 ) ; } void g ( ) { }" ∷
    breaks 5 "void main ( ) { vcc_spawn (" "f , 1 ) ; } int f ( ) { return 1 ; }" ∷
    breaks 2 "struct A { int v ; } ; struct" "A { } ; void main ( ) { }" ∷
    breaks 23 "struct" "A { } ; struct A { int v ; } ; void main ( ) { }" ∷
    []

order_hold : list_all (λ b. b) order ≡ true
unfolding reads read links climbs read_rule first first_rule low low_rule is_empty
order_hold = refl

-- a lock, its functions and two threads that use it, and other programs
abbrev lock : List Bool
lock =
    types "struct Data { int v ; _( invariant v >= 0 ) } ; _( claimable , volatile_owns ) struct Lock { volatile int locked ; _( ghost \\object protected_obj ; ) _( invariant locked == 0 ==> \\mine ( protected_obj ) ) } ; void InitializeLock ( struct Lock * l _( ghost \\object obj ) ) _( writes \\span ( l ) , obj ) _( requires \\wrapped ( obj ) ) _( ensures \\wrapped ( l ) && l -> protected_obj == obj ) { l -> locked = 0 ; _( ghost l -> protected_obj = obj ; ) _( ghost l -> \\owns = { obj } ; ) _( wrap l ) } void Acquire ( struct Lock * l _( ghost \\claim c ) ) _( maintains \\wrapped ( c ) && \\claims_object ( c , l ) ) _( ensures \\wrapped ( l -> protected_obj ) && \\fresh ( l -> protected_obj ) ) { int stop = 0 ; do { _( atomic c , l ) { stop = InterlockedCompareExchange ( & l -> locked , 1 , 0 ) == 0 ; _( ghost if ( stop ) l -> \\owns -= l -> protected_obj ; ) } } while ( ! stop ) ; } void Release ( struct Lock * l _( ghost \\claim c ) ) _( requires l -> protected_obj != c ) _( maintains \\wrapped ( c ) && \\claims_object ( c , l ) ) _( requires \\wrapped ( l -> protected_obj ) ) _( writes l -> protected_obj ) { _( atomic c , l ) { l -> locked = 0 ; _( ghost l -> \\owns += l -> protected_obj ; ) } } void Worker ( struct Lock * l , struct Data * d _( ghost \\claim c ) ) _( requires \\wrapped ( c ) && \\claims_object ( c , l ) && l -> protected_obj == d ) _( writes c ) { Acquire ( l _( ghost c ) ) ; _( unwrap d ) d -> v = 1 ; _( wrap d ) Release ( l _( ghost c ) ) ; } void main ( ) { struct Lock * l = malloc ( sizeof ( struct Lock ) ) ; struct Data * d = malloc ( sizeof ( struct Data ) ) ; if ( l != NULL && d != NULL ) { d -> v = 0 ; _( wrap d ) InitializeLock ( l _( ghost d ) ) ; _( ghost \\claim a = \\make_claim ( { l } , \\true ) ; ) _( ghost \\claim b = \\make_claim ( { l } , \\true ) ; ) vcc_spawn ( Worker , l , d _( ghost a ) ) ; vcc_spawn ( Worker , l , d _( ghost b ) ) ; } }" ∷
    types "_( claimable ) struct Ctr { volatile int n ; _( invariant \\old ( n ) <= n ) } ; void Bump ( struct Ctr * p _( ghost \\claim c ) ) _( maintains \\wrapped ( c ) && \\claims_object ( c , p ) ) { int v = 0 ; int r = 0 ; _( atomic c , p ) { v = p -> n ; } if ( v < 2147483647 ) { _( atomic c , p ) { r = InterlockedCompareExchange ( & p -> n , v + 1 , v ) ; } } } void main ( ) { }" ∷
    types "struct P { _( ghost \\claim c ; ) } ; _( claimable ) struct Q { struct P * p ; _( invariant \\this -> \\claim_count == \\old ( \\this -> \\claim_count ) || p -> c == \\old ( p -> c ) ) } ; void main ( ) { struct P * p = malloc ( sizeof ( struct P ) ) ; struct Q * q = malloc ( sizeof ( struct Q ) ) ; if ( p != NULL && q != NULL ) { q -> p = p ; _( wrap q ) _( ghost p -> c = \\make_claim ( { q } , \\true ) ; ) } }" ∷
    types "void main ( ) { int goto = 1 ; }" ∷
    []

lock_hold : list_all (λ b. b) lock ≡ true
unfolding reads read links climbs read_rule first first_rule low low_rule is_empty
lock_hold = refl

abbrev at : Rule → ℕ → ℕ → Fault
at rule line column = (rule, record { line = line; column = column })

-- the line counts first, then the column, then the number
abbrev placed : List Bool
placed =
    not_later (at r.NoMain 1 9) (at r.Undeclared 2 1) ∷
    not (not_later (at r.Undeclared 2 1) (at r.NoMain 1 9)) ∷
    not_later (at r.NoMain 1 2) (at r.Undeclared 1 3) ∷
    not (not_later (at r.Undeclared 1 3) (at r.NoMain 1 2)) ∷
    not_later (at r.Undeclared 1 2) (at r.DeclaredTwice 1 2) ∷
    not (not_later (at r.DeclaredTwice 1 2) (at r.Undeclared 1 2)) ∷
    []

placed_hold : list_all (λ b. b) placed ≡ true
placed_hold = refl
