-- Where a server listens.
use Rattle.std.specs.Prelude.{ℕ, List, Option, Some, None}
use Rattle.std.specs.String.{string_bytes}
use Rattle.bh_task.specs.declared.line_task.Door.{Door}
use Rattle.bh_task.specs.declared.line_task.Door.TheVariants.{Port, Socket}

-- the port, or 0
abbrev pub port_in : Door → ℕ
port_in (Port port) = port
port_in (Socket path) = 0

-- the socket's path
abbrev pub socket_in : Door → Option (List ℕ)
socket_in (Port port) = None
socket_in (Socket path) = Some (string_bytes path)
