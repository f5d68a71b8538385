mod Enveloped
mod Identifiers
mod Proper
