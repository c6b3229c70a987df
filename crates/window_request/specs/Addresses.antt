-- The host and the port of a URL (RFC 3986, section 3.2, and RFC 9110, section 4.2.1): a name of letters, digits, `.`, `-` and `_`,
-- and a number behind a colon, or port 80.
use Rattle.std.specs.Prelude.{ℕ, ◌≡◌, ◌==◌, ◌&&◌, ◌||◌, List, [], ◌∷◌, length, take, drop, Bool, nat_lt, Option, Some, None, option_map, true, false, if◌then◌else◌}
use Rattle.std.specs.Char.{is_ascii_digit, is_ascii_alphanumeric}
use Rattle.std.specs.List.{list_all, prefix_len}
use Rattle.std.specs.Str.Parse.{digits_value}
use Rattle.window_request.specs.Pieces.{differs}
use Rattle.window_request.specs.declared.address.HostPort.{HostPort}

abbrev pub is_host_byte : ℕ → Bool
is_host_byte b = is_ascii_alphanumeric b || (b == 46) || (b == 45) || (b == 95)

abbrev pub is_host : List ℕ → Bool
is_host text = nat_lt 0 (length text) && list_all is_host_byte text

-- 1 to 5 digits
abbrev pub is_short_number : List ℕ → Bool
is_short_number text = nat_lt 0 (length text) && nat_lt (length text) 6 && list_all is_ascii_digit text

-- the number that the digits write, or that the text isn't such
abbrev pub IsNumberOf : List ℕ → Option ℕ → Type 0
IsNumberOf text None = is_short_number text ≡ false
IsNumberOf text (Some n) = (is_short_number text ≡ true) × (n ≡ digits_value 10 text)

-- a port that TCP has: 1 to 65535
abbrev pub port_of : List ℕ → Option ℕ
port_of text =
    if is_short_number text && nat_lt 0 (digits_value 10 text) && nat_lt (digits_value 10 text) 65536 then Some (digits_value 10 text) else None

-- the port behind a host: 80 where nothing follows, and else what follows the colon
abbrev pub port_behind : List ℕ → Option ℕ
port_behind [] = Some 80
port_behind (colon ∷ text) = port_of text

-- the host, up to the first colon (58), and the port
unfoldable pub address_of : List ℕ → Option (List ℕ × ℕ)
address_of authority =
    let host = take (prefix_len (differs 58) authority) authority in
    if is_host host then option_map (λ port. (host, port)) (port_behind (drop (prefix_len (differs 58) authority) authority)) else None

-- the two parts of an address
abbrev pub named : HostPort → List ℕ × ℕ
named a = (a.host.now, a.port)
