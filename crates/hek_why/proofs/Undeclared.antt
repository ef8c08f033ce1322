-- An ID that is not declared leads to a transaction that has not begun.
use Rattle.std.proofs.Common.{◌≡◌, ℕ, zero, suc, false, List, refl, ap}
use Rattle.hek_rules.specs.declared.event.State.TheVariants.{NotBegun}
use Rattle.hek_rules.specs.World.{Txn, txn_in, declared, no_txn}
use Rattle.std.proofs.Common.{Option, Some, None}
use Rattle.std.specs.Prelude.{is_some, unwrap_or, slice_get}

none_there : (o : Option Txn) → is_some o ≡ false → unwrap_or o no_txn ≡ no_txn
none_there None h = refl
none_there (Some x) h = cc

pub undeclared : (ts : List Txn) (u : ℕ) → declared ts u ≡ false → txn_in ts u ≡ no_txn
undeclared ts zero h = refl
undeclared ts (suc i) h = none_there (slice_get ts i) h

pub undeclared_state : (ts : List Txn) (u : ℕ) → declared ts u ≡ false → (txn_in ts u).state ≡ NotBegun
undeclared_state ts u h = ap (λ (x : Txn). x.state) (undeclared ts u h)

pub undeclared_end : (ts : List Txn) (u : ℕ) → declared ts u ≡ false → (txn_in ts u).end ≡ 0
undeclared_end ts u h = ap (λ (x : Txn). x.end) (undeclared ts u h)

pub undeclared_finished : (ts : List Txn) (u : ℕ) → declared ts u ≡ false → (txn_in ts u).no_more_waits ≡ false
undeclared_finished ts u h = ap (λ (x : Txn). x.no_more_waits) (undeclared ts u h)
