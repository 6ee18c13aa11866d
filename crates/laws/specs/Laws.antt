-- Mirrored: Document 01, "Law table": the equations, one a definition, and the table of them in the document's order, numbered from 1.
-- Tied to what is believed by `NumberOfLaws`, `RowsAsPrinted`.
use Rattle.std.specs.Prelude.{ℕ, ◌-◌, ◌≡◌, List, [], ◌∷◌, length, get_or}
use Rattle.grammar.specs.Tree as tree
use Rattle.laws.specs.Scheme as scheme
use Rattle.laws.specs.Scheme.{LengthTerm, Scheme, Equation, d, e, d+e, larger, smaller}

infixl 70 ◌·◌
infixl 60 ◌⊕◌
infix 40 ◌≐◌
-- document 01's writing: its . is · here, its + is ⊕, and its = is ≐
abbrev f : Scheme
f = scheme.letter scheme.Letter.f

abbrev g : Scheme
g = scheme.letter scheme.Letter.g

abbrev h : Scheme
h = scheme.letter scheme.Letter.h

abbrev s : Scheme
s = scheme.letter scheme.Letter.s

abbrev r : Scheme
r = scheme.letter scheme.Letter.r

abbrev p : Scheme
p = scheme.letter scheme.Letter.p

abbrev 𝟎 : Scheme
𝟎 = scheme.down

abbrev 𝟏 : Scheme
𝟏 = scheme.up

abbrev ! : Scheme → Scheme
! a = scheme.unary scheme.Operator.invert a

abbrev ^ : Scheme → Scheme
^ a = scheme.unary scheme.Operator.rise a

abbrev ~ : Scheme → Scheme
~ a = scheme.unary scheme.Operator.fall a

abbrev ◌·◌ : Scheme → Scheme → Scheme
a · b = scheme.binary tree.Binary.and a b

abbrev ◌⊕◌ : Scheme → Scheme → Scheme
a ⊕ b = scheme.binary tree.Binary.or a b

abbrev SR : Scheme → Scheme → Scheme
SR a b = scheme.binary tree.Binary.sr a b

abbrev RS : Scheme → Scheme → Scheme
RS a b = scheme.binary tree.Binary.rs a b

abbrev TON : LengthTerm → Scheme → Scheme
TON n a = scheme.unary (scheme.Operator.ton n) a

abbrev TOF : LengthTerm → Scheme → Scheme
TOF n a = scheme.unary (scheme.Operator.tof n) a

abbrev ◌≐◌ : Scheme → Scheme → Equation
a ≐ b = record { left = a; right = b }

-- Commuting, grouping, distributing (both ways), absorbing, De Morgan, as request 12 of document 02 spells them

-- 1. f.g=g.f
abbrev pub and_commutes : Equation
and_commutes = f · g ≐ g · f

-- 2. f+g=g+f
abbrev pub or_commutes : Equation
or_commutes = f ⊕ g ≐ g ⊕ f

-- 3. f.(g.h)=f.g.h
abbrev pub and_groups : Equation
and_groups = f · (g · h) ≐ f · g · h

-- 4. f+(g+h)=f+g+h
abbrev pub or_groups : Equation
or_groups = f ⊕ (g ⊕ h) ≐ f ⊕ g ⊕ h

-- 5. f.(g+h)=f.g+f.h
abbrev pub and_distributes : Equation
and_distributes = f · (g ⊕ h) ≐ f · g ⊕ f · h

-- 6. f+g.h=(f+g).(f+h)
abbrev pub or_distributes : Equation
or_distributes = f ⊕ g · h ≐ (f ⊕ g) · (f ⊕ h)

-- 7. f.(f+g)=f
abbrev pub and_absorbs : Equation
and_absorbs = f · (f ⊕ g) ≐ f

-- 8. f+f.g=f
abbrev pub or_absorbs : Equation
or_absorbs = f ⊕ f · g ≐ f

-- 9. !(f.g)=!f+!g
abbrev pub not_of_and : Equation
not_of_and = ! (f · g) ≐ ! f ⊕ ! g

-- 10. !(f+g)=!f.!g
abbrev pub not_of_or : Equation
not_of_or = ! (f ⊕ g) ≐ ! f · ! g

-- the other Boolean equations

-- 11. !!f=f
abbrev pub not_not : Equation
not_not = ! (! f) ≐ f

-- 12. f.f=f
abbrev pub and_self : Equation
and_self = f · f ≐ f

-- 13. f+f=f
abbrev pub or_self : Equation
or_self = f ⊕ f ≐ f

-- 14. f.1=f
abbrev pub and_one : Equation
and_one = f · 𝟏 ≐ f

-- 15. f+0=f
abbrev pub or_zero : Equation
or_zero = f ⊕ 𝟎 ≐ f

-- 16. f.0=0
abbrev pub and_zero : Equation
and_zero = f · 𝟎 ≐ 𝟎

-- 17. f+1=1
abbrev pub or_one : Equation
or_one = f ⊕ 𝟏 ≐ 𝟏

-- 18. f.!f=0
abbrev pub and_not : Equation
and_not = f · ! f ≐ 𝟎

-- 19. f+!f=1
abbrev pub or_not : Equation
or_not = f ⊕ ! f ≐ 𝟏

-- SR

-- 20. SR(s,!s)=s
abbrev pub sr_not : Equation
sr_not = SR s (! s) ≐ s

-- 21. SR(s,1)=s
abbrev pub sr_reset_one : Equation
sr_reset_one = SR s 𝟏 ≐ s

-- 22. SR(1,r)=1
abbrev pub sr_set_one : Equation
sr_set_one = SR 𝟏 r ≐ 𝟏

-- 23. SR(0,r)=0
abbrev pub sr_set_zero : Equation
sr_set_zero = SR 𝟎 r ≐ 𝟎

-- 24. SR(s,r).r=s.r
abbrev pub sr_and_reset : Equation
sr_and_reset = SR s r · r ≐ s · r

-- 25. SR(s,r+p)=SR(s,r).SR(s,p)
abbrev pub sr_reset_or : Equation
sr_reset_or = SR s (r ⊕ p) ≐ SR s r · SR s p

-- 26. SR(s+p,r)=SR(s,r)+SR(p,r)
abbrev pub sr_set_or : Equation
sr_set_or = SR (s ⊕ p) r ≐ SR s r ⊕ SR p r

-- RS; over + in either operand in SR's order

-- 27. RS(s,!s)=s
abbrev pub rs_not : Equation
rs_not = RS s (! s) ≐ s

-- 28. RS(s,1)=0
abbrev pub rs_reset_one : Equation
rs_reset_one = RS s 𝟏 ≐ 𝟎

-- 29. RS(1,r)=!r
abbrev pub rs_set_one : Equation
rs_set_one = RS 𝟏 r ≐ ! r

-- 30. RS(0,r)=0
abbrev pub rs_set_zero : Equation
rs_set_zero = RS 𝟎 r ≐ 𝟎

-- 31. RS(s,s)=0
abbrev pub rs_self : Equation
rs_self = RS s s ≐ 𝟎

-- 32. RS(s,r).s=s.!r
abbrev pub rs_and_set : Equation
rs_and_set = RS s r · s ≐ s · ! r

-- 33. RS(s+r.f,r)=RS(s,r)
abbrev pub rs_set_under_reset : Equation
rs_set_under_reset = RS (s ⊕ r · f) r ≐ RS s r

-- 34. RS(s,r)=SR(s.!r,r)
abbrev pub rs_as_sr : Equation
rs_as_sr = RS s r ≐ SR (s · ! r) r

-- 35. RS(s,r+p)=RS(s,r).RS(s,p)
abbrev pub rs_reset_or : Equation
rs_reset_or = RS s (r ⊕ p) ≐ RS s r · RS s p

-- 36. RS(s+p,r)=RS(s,r)+RS(p,r)
abbrev pub rs_set_or : Equation
rs_set_or = RS (s ⊕ p) r ≐ RS s r ⊕ RS p r

-- TON and TOF; TOF's length equations in the order of TON's

-- 37. TON(d,f).f=TON(d,f)
abbrev pub ton_and_input : Equation
ton_and_input = TON d f · f ≐ TON d f

-- 38. f.TOF(d,f)=f
abbrev pub input_and_tof : Equation
input_and_tof = f · TOF d f ≐ f

-- 39. TON(d,f.g)=TON(d,f).TON(d,g)
abbrev pub ton_of_and : Equation
ton_of_and = TON d (f · g) ≐ TON d f · TON d g

-- 40. TOF(d,f+g)=TOF(d,f)+TOF(d,g)
abbrev pub tof_of_or : Equation
tof_of_or = TOF d (f ⊕ g) ≐ TOF d f ⊕ TOF d g

-- 41. TON(d,TON(e,f))=TON(d+e,f)
abbrev pub ton_of_ton : Equation
ton_of_ton = TON d (TON e f) ≐ TON d+e f

-- 42. TOF(d,TOF(e,f))=TOF(d+e,f)
abbrev pub tof_of_tof : Equation
tof_of_tof = TOF d (TOF e f) ≐ TOF d+e f

-- 43. TON(d,f).TON(e,f)=TON(the larger,f)
abbrev pub ton_and_ton : Equation
ton_and_ton = TON d f · TON e f ≐ TON larger f

-- 44. TON(d,f)+TON(e,f)=TON(the smaller,f)
abbrev pub ton_or_ton : Equation
ton_or_ton = TON d f ⊕ TON e f ≐ TON smaller f

-- 45. TOF(d,f).TOF(e,f)=TOF(the smaller,f)
abbrev pub tof_and_tof : Equation
tof_and_tof = TOF d f · TOF e f ≐ TOF smaller f

-- 46. TOF(d,f)+TOF(e,f)=TOF(the larger,f)
abbrev pub tof_or_tof : Equation
tof_or_tof = TOF d f ⊕ TOF e f ≐ TOF larger f

-- 47. !TON(d,f).TON(d,1)=TOF(d,!f).TON(d,1)
abbrev pub not_ton : Equation
not_ton = ! (TON d f) · TON d 𝟏 ≐ TOF d (! f) · TON d 𝟏

-- 48. !TOF(d,f).TON(d,1)=TON(d,!f)
abbrev pub not_tof : Equation
not_tof = ! (TOF d f) · TON d 𝟏 ≐ TON d (! f)

-- rising and falling

-- 49. ^f.f=^f
abbrev pub rising_and_input : Equation
rising_and_input = ^ f · f ≐ ^ f

-- 50. ^!f=~f
abbrev pub rising_of_not : Equation
rising_of_not = ^ (! f) ≐ ~ f

-- 51. ~!f=^f
abbrev pub falling_of_not : Equation
falling_of_not = ~ (! f) ≐ ^ f

-- 52. ^^f=^f
abbrev pub rising_of_rising : Equation
rising_of_rising = ^ (^ f) ≐ ^ f

-- 53. ~^f=0
abbrev pub falling_of_rising : Equation
falling_of_rising = ~ (^ f) ≐ 𝟎

-- 54. ^(f.g)=^f.g+f.^g
abbrev pub rising_of_and : Equation
rising_of_and = ^ (f · g) ≐ ^ f · g ⊕ f · ^ g

-- 55. ~(f+g)=~f.!g+!f.~g
abbrev pub falling_of_or : Equation
falling_of_or = ~ (f ⊕ g) ≐ ~ f · ! g ⊕ ! f · ~ g

unfoldable pub table : List Equation
table =
    and_commutes
    ∷ or_commutes
    ∷ and_groups
    ∷ or_groups
    ∷ and_distributes
    ∷ or_distributes
    ∷ and_absorbs
    ∷ or_absorbs
    ∷ not_of_and
    ∷ not_of_or
    ∷ not_not
    ∷ and_self
    ∷ or_self
    ∷ and_one
    ∷ or_zero
    ∷ and_zero
    ∷ or_one
    ∷ and_not
    ∷ or_not
    ∷ sr_not
    ∷ sr_reset_one
    ∷ sr_set_one
    ∷ sr_set_zero
    ∷ sr_and_reset
    ∷ sr_reset_or
    ∷ sr_set_or
    ∷ rs_not
    ∷ rs_reset_one
    ∷ rs_set_one
    ∷ rs_set_zero
    ∷ rs_self
    ∷ rs_and_set
    ∷ rs_set_under_reset
    ∷ rs_as_sr
    ∷ rs_reset_or
    ∷ rs_set_or
    ∷ ton_and_input
    ∷ input_and_tof
    ∷ ton_of_and
    ∷ tof_of_or
    ∷ ton_of_ton
    ∷ tof_of_tof
    ∷ ton_and_ton
    ∷ ton_or_ton
    ∷ tof_and_tof
    ∷ tof_or_tof
    ∷ not_ton
    ∷ not_tof
    ∷ rising_and_input
    ∷ rising_of_not
    ∷ falling_of_not
    ∷ rising_of_rising
    ∷ falling_of_rising
    ∷ rising_of_and
    ∷ falling_of_or
    ∷ []

-- the equation of a number, from 1
unfoldable pub equation : ℕ → Equation
equation n = get_or table (n - 1) and_commutes

-- the table has 55 equations
abbrev pub NumberOfLaws : Type 0
NumberOfLaws = length table ≡ 55
