-- With the connections that are left the text is whole, and those so far are sound.
use Rattle.std.proofs.Common.{◌≡◌, ◌++◌, All, drop, string_bytes, take}
use Rattle.page_json.specs.ConnectionWriting.{rest_part}
use Rattle.page_json.specs.Sound.{IsSoundConnection}
use Rattle.page_json.proofs.connection_writing.append_rest.Given as goal

abbrev pub invariant-loop-connection : goal.invariant-loop-connection
invariant-loop-connection l = record {
  written : string_bytes l.out ++ rest_part l.fronts (drop l.connection-index l.connections)
      ≡ string_bytes l.initial.out ++ rest_part l.fronts l.connections;
  sound : All IsSoundConnection (take l.connection-index l.connections);
}
