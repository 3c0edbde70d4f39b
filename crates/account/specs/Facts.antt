-- What an account tells that passed 10 (counts). No outcome is defined here.
use Rattle.std.specs.Prelude.{◌≤◌}
use Rattle.types.specs.declared.Account.{Account}
use Rattle.types.specs.Blocks.{most_files}

-- neither count is above what a mount can have, so that one more never wraps
pub record Room (a : Account) : Type 0 where
  pub opened : a.opened ≤ most_files
  pub active : a.active ≤ most_files
