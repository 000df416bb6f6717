-- What a fresh header asks for: numbers that were refused neither 2 nor 3.
use Rattle.std.specs.Prelude.{ℕ, ◌≤◌}
use Rattle.rules.specs.Limits.{side_most, option_most}

pub record Fresh (width height align_width align_height columns : ℕ) : Type 0 where
  pub across : width ≤ side_most
  pub down : height ≤ side_most
  pub stepw : (1 ≤ align_width) × (align_width ≤ option_most)
  pub steph : align_height ≤ option_most
  pub split : (1 ≤ columns) × (columns ≤ option_most)
