-- Counts that increase by a number, and then by more.
use Rattle.std.proofs.Common.{ℕ, ◌+◌, ◌≤◌, arith}
use Rattle.lc_io.specs.Counts.{Rose, RoseBy}

pub rose_none : (before now : ℕ) → before ≤ now → RoseBy 0 before now
rose_none before now kept = omega arith

pub rose_before : (a b c : ℕ) → a ≤ b → Rose b c → Rose a c
rose_before a b c kept rose = omega arith

pub rose_and_kept : (times a b c : ℕ) → RoseBy times a b → b ≤ c → RoseBy times a c
rose_and_kept times a b c rose kept = omega arith

pub rose_once_more : (times a b c : ℕ) → RoseBy times a b → Rose b c → RoseBy (times + 1) a c
rose_once_more times a b c rose once = omega arith
