-- The form of a world: the world without its times, and what each transaction that may still read as of its begin finds
-- before its begin and after it. A program decides similarity by comparing forms.
use Rattle.std.specs.Prelude.{ℕ, Bool, ◌&&◌, nat_lt, if◌then◌else◌, List, map, Option, Some, None}
use Rattle.hek_rules.specs.World.{World, Version, Txn, is_prepared}
use Rattle.hek_similar.specs.Similar.{timeless, made_time, ended_time, looks_back}

-- which versions were made, which ended, and which transactions were prepared after a time
pub record After : Type 0 where
  pub made : List Bool
  pub ended : List Bool
  pub prepared : List Bool

abbrev pub after : List Version → List Txn → ℕ → After
after vs ts r =
    record {
      made = map (λ x. nat_lt r (made_time x.creator)) vs;
      ended = map (λ x. nat_lt r (ended_time x.ender)) vs;
      prepared = map (λ x. is_prepared x.state && nat_lt r x.end) ts;
    }

-- what comes after the begin of a transaction, if it may still read as of it
abbrev pub look : List Version → List Txn → Txn → Option After
look vs ts x = if looks_back x then Some (after vs ts x.begin) else None

pub record Form : Type 0 where
  pub world : World
  pub looks : List (Option After)

abbrev pub form : World → Form
form w = record { world = timeless w; looks = map (look w.versions w.txns) w.txns }
