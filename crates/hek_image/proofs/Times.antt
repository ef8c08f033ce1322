-- One more of several items that are read.
use Rattle.std.proofs.Common.{◌≡◌, ℕ, suc, ◌+◌, ◌-◌, ◌<◌, ◌≤◌, Result, Ok, refl, arith}
use Rattle.hek_rules.specs.Plan.{Plan}
use Rattle.hek_image.specs.declared.fault.LoadFault.{LoadFault}
use Rattle.hek_image.specs.declared.fault.LoadFault.TheVariants as load
use Rattle.hek_image.specs.Loading.{then_read, Reader, Place, times}
use Rattle.hek_image.specs.Gives.{FieldFails}

pub more : (item : Plan → Place → Result (Plan × Place) LoadFault) (count i : ℕ) (plan after : Plan) (p q : Place) → i < count → item plan p ≡ Ok (after, q) → times (count - i) item plan p ≡ times (count - (i + 1)) item after q
unfolding times
more item count i plan after p q lt e = let k : count - i ≡ suc (count - (i + 1)) = omega arith in rw (k, e) refl

pub done : (item : Plan → Place → Result (Plan × Place) LoadFault) (count i : ℕ) (plan : Plan) (p : Place) → count ≤ i → times (count - i) item plan p ≡ Ok (plan, p)
unfolding times
done item count i plan p le = let k : count - i ≡ 0 = omega arith in rw k refl

-- a fault of the first field is a fault of the fields together
pub first_fault : {A B : Type 0} (e : LoadFault) (r : Result (A × Place) LoadFault) (f : A → Reader B) → FieldFails e r → FieldFails e (then_read r f)
first_fault load.NoMemory r f h = tt
first_fault load.Read r f h = h
first_fault load.BadMagic r f h = rw h refl
first_fault load.BadVersion r f h = rw h refl
first_fault load.Short r f h = rw h refl
first_fault (load.BadField n) r f h = rw h refl
first_fault load.Trailing r f h = rw h refl

pub fails : (item : Plan → Place → Result (Plan × Place) LoadFault) (e : LoadFault) (count i : ℕ) (plan : Plan) (p : Place) → i < count → FieldFails e (item plan p) → FieldFails e (times (count - i) item plan p)
unfolding times
fails item e count i plan p lt h = let k : count - i ≡ suc (count - (i + 1)) = omega arith in rw k (first_fault e (item plan p) (times (count - (i + 1)) item) h)
