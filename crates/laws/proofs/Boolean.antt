-- Laws 1 to 19, the Boolean ones.
use mathlib.Core.Path.{◌≡◌, refl, sym}
use mathlib.Core.Bool.{Bool, true, false, not, ◌&&◌, ◌||◌, and_comm, or_comm, and_assoc, or_assoc, and-or_distrib_left, or-and_distrib_left}
use mathlib.Core.Bool
use mathlib.Core.Bool.{and_self as bool-and-self, or_self as bool-or-self, and-true, or-false, and-false, or-true}
use mathlib.Core.Bool.{and-not_self, or-not_self}
use Rattle.signals.specs.Signal.{constant, NOT, AND, OR}
use Rattle.laws.specs.Laws.{and_commutes, or_commutes, and_groups, or_groups, and_distributes, or_distributes, and_absorbs, or_absorbs}
use Rattle.laws.specs.Laws.{not_of_and, not_of_or, not_not, and_self, or_self, and_one, or_zero, and_zero, or_one, and_not, or_not}
use Rattle.laws.specs.Scheme.{f, g, h}
use Rattle.laws.specs.Soundness.{Holds}
use Rattle.laws.proofs.Letters.{put_for}

absorb_and : (a b : Bool) → (a && (a || b)) ≡ a
absorb_and true b = refl
absorb_and false b = refl

absorb_or : (a b : Bool) → (a || a && b) ≡ a
absorb_or true b = refl
absorb_or false b = refl

de_morgan_and : (a b : Bool) → not (a && b) ≡ (not a || not b)
de_morgan_and true b = refl
de_morgan_and false b = refl

de_morgan_or : (a b : Bool) → not (a || b) ≡ (not a && not b)
de_morgan_or true b = refl
de_morgan_or false b = refl

pub and_commutes_lem : Holds and_commutes
unfolding AND
and_commutes_lem env x t = and_comm (put_for env x f t) (put_for env x g t)

pub or_commutes_lem : Holds or_commutes
unfolding OR
or_commutes_lem env x t = or_comm (put_for env x f t) (put_for env x g t)

pub and_groups_lem : Holds and_groups
unfolding AND
and_groups_lem env x t = sym (and_assoc (put_for env x f t) (put_for env x g t) (put_for env x h t))

pub or_groups_lem : Holds or_groups
unfolding OR
or_groups_lem env x t = sym (or_assoc (put_for env x f t) (put_for env x g t) (put_for env x h t))

pub and_distributes_lem : Holds and_distributes
unfolding AND OR
and_distributes_lem env x t = and-or_distrib_left (put_for env x f t) (put_for env x g t) (put_for env x h t)

pub or_distributes_lem : Holds or_distributes
unfolding AND OR
or_distributes_lem env x t = or-and_distrib_left (put_for env x f t) (put_for env x g t) (put_for env x h t)

pub and_absorbs_lem : Holds and_absorbs
unfolding AND OR
and_absorbs_lem env x t = absorb_and (put_for env x f t) (put_for env x g t)

pub or_absorbs_lem : Holds or_absorbs
unfolding AND OR
or_absorbs_lem env x t = absorb_or (put_for env x f t) (put_for env x g t)

pub not_of_and_lem : Holds not_of_and
unfolding NOT AND OR
not_of_and_lem env x t = de_morgan_and (put_for env x f t) (put_for env x g t)

pub not_of_or_lem : Holds not_of_or
unfolding NOT AND OR
not_of_or_lem env x t = de_morgan_or (put_for env x f t) (put_for env x g t)

pub not_not_lem : Holds not_not
unfolding NOT
not_not_lem env x t = Bool.not-not (put_for env x f t)

pub and_self_lem : Holds and_self
unfolding AND
and_self_lem env x t = bool-and-self (put_for env x f t)

pub or_self_lem : Holds or_self
unfolding OR
or_self_lem env x t = bool-or-self (put_for env x f t)

pub and_one_lem : Holds and_one
unfolding AND constant
and_one_lem env x t = and-true (put_for env x f t)

pub or_zero_lem : Holds or_zero
unfolding OR constant
or_zero_lem env x t = or-false (put_for env x f t)

pub and_zero_lem : Holds and_zero
unfolding AND constant
and_zero_lem env x t = and-false (put_for env x f t)

pub or_one_lem : Holds or_one
unfolding OR constant
or_one_lem env x t = or-true (put_for env x f t)

pub and_not_lem : Holds and_not
unfolding AND NOT constant
and_not_lem env x t = and-not_self (put_for env x f t)

pub or_not_lem : Holds or_not
unfolding OR NOT constant
or_not_lem env x t = or-not_self (put_for env x f t)
