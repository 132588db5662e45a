use Rattle.std.proofs.Common.{◌≡◌, IsUtf8}
use Rattle.std.specs.Str.Iter.{chars_rest}
use Rattle.std.specs.Str.{chars}
use Rattle.keys.specs.Entries.{typed}
use Rattle.keys.specs.Keys.{key_after}
use Rattle.keys.proofs.entry.Entry.type_in.Given as goal

-- what is left of the text says now what all of it said at the start
abbrev pub invariant-loop-c : goal.invariant-loop-c
invariant-loop-c l = record {
  text : IsUtf8 (chars_rest l.c-iterator);
  same : key_after 16 (typed l.self) (chars (chars_rest l.c-iterator)) ≡ key_after 16 (typed l.initial.self) (chars (chars_rest l.initial.c-iterator));
}
