-- What a table that keeps the rules looks like, in terms of its meaning.
use Rattle.std.specs.Prelude.{◌≡◌, ℕ, ◌+◌, ◌<◌, ◌≤◌, length}
use Rattle.image.specs.declared.kinds.TransitionKind.TheVariants.{Rule}
use Rattle.checked_table.specs.Atn.{Atn, state_at, transition_at}

pub record Formed (a : Atn) : Type 0 where
  -- transitions, targets and return states are there
  pub spans : (s : ℕ) → s < length a.states → (state_at a s).first + (state_at a s).count ≤ length a.transitions
  pub targets : (t : ℕ) → t < length a.transitions → (transition_at a t).target < length a.states
  pub follows : (t rule follow : ℕ) → t < length a.transitions → (transition_at a t).kind ≡ Rule rule follow → follow < length a.states
