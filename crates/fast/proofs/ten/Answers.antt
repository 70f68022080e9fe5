-- `fast::ten` meets its contract: each arm has its power of ten. Assumes nothing.
use mathlib.Core.Path.{◌≡◌, refl}
use native.Mathlib.Omega.{arith}
use lib.Ieee.{of_bits}
use Rattle.fast.proofs.ten.Goals as goal

pub returns-in-1 : goal.returns-in-1
unfolding of_bits
returns-in-1 c = rw c.in-1.is (refl, refl)

pub returns-in-2 : goal.returns-in-2
unfolding of_bits
returns-in-2 c = rw c.in-2.is (refl, refl)

pub returns-in-3 : goal.returns-in-3
unfolding of_bits
returns-in-3 c = rw c.in-3.is (refl, refl)

pub returns-in-4 : goal.returns-in-4
unfolding of_bits
returns-in-4 c = rw c.in-4.is (refl, refl)

pub returns-in-5 : goal.returns-in-5
unfolding of_bits
returns-in-5 c = rw c.in-5.is (refl, refl)

pub returns-in-6 : goal.returns-in-6
unfolding of_bits
returns-in-6 c = rw c.in-6.is (refl, refl)

pub returns-in-7 : goal.returns-in-7
unfolding of_bits
returns-in-7 c = rw c.in-7.is (refl, refl)

pub returns-in-8 : goal.returns-in-8
unfolding of_bits
returns-in-8 c = rw c.in-8.is (refl, refl)

pub returns-in-9 : goal.returns-in-9
unfolding of_bits
returns-in-9 c = rw c.in-9.is (refl, refl)

pub returns-in-10 : goal.returns-in-10
unfolding of_bits
returns-in-10 c = rw c.in-10.is (refl, refl)

pub returns-in-11 : goal.returns-in-11
unfolding of_bits
returns-in-11 c = rw c.in-11.is (refl, refl)

pub returns-in-12 : goal.returns-in-12
unfolding of_bits
returns-in-12 c = rw c.in-12.is (refl, refl)

pub returns-in-13 : goal.returns-in-13
unfolding of_bits
returns-in-13 c = rw c.in-13.is (refl, refl)

pub returns-in-14 : goal.returns-in-14
unfolding of_bits
returns-in-14 c = rw c.in-14.is (refl, refl)

pub returns-in-15 : goal.returns-in-15
unfolding of_bits
returns-in-15 c = rw c.in-15.is (refl, refl)

pub returns-in-16 : goal.returns-in-16
unfolding of_bits
returns-in-16 c = rw c.in-16.is (refl, refl)

pub returns-in-17 : goal.returns-in-17
unfolding of_bits
returns-in-17 c = rw c.in-17.is (refl, refl)

pub returns-in-18 : goal.returns-in-18
unfolding of_bits
returns-in-18 c = rw c.in-18.is (refl, refl)

pub returns-in-19 : goal.returns-in-19
unfolding of_bits
returns-in-19 c = rw c.in-19.is (refl, refl)

pub returns-in-20 : goal.returns-in-20
unfolding of_bits
returns-in-20 c = rw c.in-20.is (refl, refl)

pub returns-in-21 : goal.returns-in-21
unfolding of_bits
returns-in-21 c = rw c.in-21.is (refl, refl)

pub returns-in_default : goal.returns-in_default
unfolding of_bits
returns-in_default c = let last : c.args.k ≡ 22 = omega arith in rw last (refl, refl)
