-- How many records of each kind a table has, and their limits.
use Rattle.std.specs.Prelude.{◌≡◌, ◌≤◌, length}
use Rattle.checked_table.specs.declared.counts.Counts.{Counts}
use Rattle.checked_table.specs.Atn.{Atn}

pub record Counted (a : Atn) (c : Counts) : Type 0 where
  pub states : c.states ≡ length a.states
  pub transitions : c.transitions ≡ length a.transitions
  pub intervals : c.intervals ≡ length a.intervals
  pub modes : c.modes ≡ length a.modes
  pub rules : c.rules ≡ length a.rules
  pub actions : c.actions ≡ length a.actions
  pub least : (1 ≤ c.states) × (1 ≤ c.modes) × (1 ≤ c.rules)
  pub most : (c.states ≤ 4096) × (c.transitions ≤ 16384) × (c.intervals ≤ 8192) × (c.modes ≤ 64) × (c.rules ≤ 512) × (c.actions ≤ 256)
