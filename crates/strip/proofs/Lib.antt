mod ByteRows
mod Made
