-- What a source gave while fields were read from it, and what is certain whatever bytes follow.
use Rattle.std.specs.Prelude.{◌≡◌, ℕ, ◌+◌, ◌≤◌, List, [], ◌∷◌, ◌++◌, length, Result, Ok, Err}
use Rattle.hek_rules.specs.declared.event.Level.{Level}
use Rattle.hek_rules.specs.Plan.{Plan, max_rows, max_steps, max_txns}
use Rattle.hek_image.specs.declared.fault.LoadFault.{LoadFault}
use Rattle.hek_image.specs.declared.fault.LoadFault.TheVariants as load
use Rattle.hek_image.specs.declared.item.Item.{Item}
use Rattle.hek_image.specs.declared.item.Item.TheVariants as item
use Rattle.hek_image.specs.Loading.{Header, Reader, both, checked_read, bytes_at, value, is_new_name, row_at, txn_at, step_at, times}

-- a fault of a reader r at an offset, where a source gave `text` and has `rest` left: no bytes after the text change
-- the fault; with Read and Short the text ends too early, and with Short the source has no more
abbrev pub FaultHolds : {Y : Type 0} → LoadFault → Reader Y → ℕ → List ℕ → List ℕ → Type 0
FaultHolds load.NoMemory r at text rest = Unit {0}
FaultHolds load.Read r at text rest = r (record { at = at; rest = text }) ≡ Err load.Short
FaultHolds load.Short r at text rest = (r (record { at = at; rest = text }) ≡ Err load.Short) × (rest ≡ [])
FaultHolds load.BadMagic r at text rest = (more : List ℕ) → r (record { at = at; rest = text ++ more }) ≡ Err load.BadMagic
FaultHolds load.BadVersion r at text rest = (more : List ℕ) → r (record { at = at; rest = text ++ more }) ≡ Err load.BadVersion
FaultHolds (load.BadField n) r at text rest = (more : List ℕ) → r (record { at = at; rest = text ++ more }) ≡ Err (load.BadField n)
FaultHolds load.Trailing r at text rest = (more : List ℕ) → r (record { at = at; rest = text ++ more }) ≡ Err load.Trailing

-- an answer of a reader r, where the text that the source gave is what r takes; `view` gives the value, and the offset
-- of the next field
abbrev pub Holds : {X Y : Type 0} → (X → Y × ℕ) → Result X LoadFault → Reader Y → ℕ → List ℕ → List ℕ → Type 0
Holds view (Ok x) r at text rest = (more : List ℕ) → r (record { at = at; rest = text ++ more }) ≡ Ok ((view x).0, record { at = (view x).1; rest = more })
Holds view (Err e) r at text rest = FaultHolds e r at text rest

-- a source with the bytes `whole` left gave at most `size` of them, with this answer of a reader r at an offset
pub record Takes {X Y : Type 0} (view : X → Y × ℕ) (r : Reader Y) (at size : ℕ) (result : Result X LoadFault) (whole rest : List ℕ) : Type 0 where
  pub text : List ℕ
  pub parts : whole ≡ text ++ rest
  pub few : length text ≤ size
  pub holds : Holds view result r at text rest

-- ---- items
-- a reader of the name of a transaction of this level, which adds the transaction
abbrev pub named_txn_at : Level → ℕ → Plan → Reader Plan
named_txn_at level len plan = both (checked_read (bytes_at len) (is_new_name plan)) (λ name.
    value (record plan { txns = plan.txns ++ (name, level) ∷ [] }))

abbrev pub item_at : Item → Plan → Reader Plan
item_at item.Row plan = row_at plan
item_at (item.Name level len) plan = named_txn_at level len plan
item_at item.Step plan = step_at plan

abbrev pub item_size : Item → ℕ
item_size item.Row = 16
item_size (item.Name level len) = len
item_size item.Step = 21

-- the plan has room for n more of these items
abbrev pub ItemsFit : Item → ℕ → Plan → Type 0
ItemsFit item.Row n plan = length plan.rows + n ≤ max_rows
ItemsFit (item.Name level len) n plan = length plan.txns + n ≤ max_txns
ItemsFit item.Step n plan = length plan.steps + n ≤ max_steps

abbrev pub HasMore : ℕ → ℕ → ℕ → Plan → Plan → Type 0
HasMore rows txns steps old new = (length new.rows ≡ length old.rows + rows) × (length new.txns ≡ length old.txns + txns) × (length new.steps ≡ length old.steps + steps)

-- the new plan has n more of these items
abbrev pub HasGrown : Item → ℕ → Plan → Plan → Type 0
HasGrown item.Row n old new = HasMore n 0 0 old new
HasGrown (item.Name level len) n old new = HasMore 0 n 0 old new
HasGrown item.Step n old new = HasMore 0 0 n old new

-- a reader of all items after a header
abbrev pub body_at : Plan × Header → Reader Plan
body_at head = both (times head.1.rows row_at head.0) (λ plan.
    both (times head.1.txns (txn_at head.1.version) plan) (λ full.
    times head.1.steps step_at full))
